-- Paths of the program as the definitions name them. This project's own.
use Rattle.std.specs.Prelude.{List, map}
use Rattle.lisp_spec.specs.Parameters as parameters
use Rattle.lisp_compile.specs.declared.parameters.Side.{Side}
use Rattle.lisp_compile.specs.declared.parameters.Side.TheVariants.{First, Rest}

abbrev pub side_of : Side → parameters.Side
side_of First = parameters.ToFirst
side_of Rest = parameters.ToRest

abbrev pub path_in : List Side → List parameters.Side
path_in sides = map side_of sides
