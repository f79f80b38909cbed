-- What the names of a body stand for in its code: a parameter of a function, or of the module, for the path to it from the
-- argument down, and one of an inline for an expression of the caller. Source: this project's own.
use Rattle.std.specs.Prelude.{List, Some}
use Rattle.lisp_spec.specs.Forms.{Form}
use Rattle.lisp_spec.specs.Parameters.{Side, parameters}
use Rattle.lisp_spec.specs.Environments.{Environment, all_bound}

abbrev pub Names : Type 0
Names = Environment (List Side)

abbrev pub function_names : (params : Form) → Names
function_names params = all_bound Some (parameters params)
