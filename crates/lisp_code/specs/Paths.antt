-- A path of sides as the atom that leads there. The lowest bit is the first step's, 0 to the first and 1 to the rest, and
-- a 1 stands in front of all steps. Source: CLVM reference.
use Rattle.std.specs.Prelude.{ℕ, ◌+◌, ◌*◌, List, [], ◌∷◌}
use Rattle.std.specs.Int.Digits.{digits_of}
use Rattle.lisp_spec.specs.Parameters.{Side, ToFirst, ToRest}

abbrev pub path_number : List Side → ℕ
path_number [] = 1
path_number (ToFirst ∷ path) = 2 * path_number path
path_number (ToRest ∷ path) = 2 * path_number path + 1

abbrev pub path_atom : List Side → List ℕ
path_atom path = digits_of 256 (path_number path)
