-- Pieces of code. Source: this project's own, over the operators of the CLVM reference.
use Rattle.std.specs.Prelude.{List, [], ◌∷◌}
use Rattle.clvm_spec.specs.declared.op_codes.TheConstants.{APPLY, CHOICE, NEW_PAIR, RAISE}
use Rattle.clvm_spec.specs.Tree.{Tree, Atom}
use Rattle.lisp_spec.specs.Parameters.{Side}
pub use Rattle.clvm_spec.specs.Currying.{operator_code}
use Rattle.lisp_code.specs.Paths.{path_atom}

-- what stands at a path of the tree that the code runs on
abbrev pub path_code : List Side → Tree
path_code path = Atom (path_atom path)

-- `(x)`: code that always fails
abbrev pub failing : Tree
failing = operator_code RAISE []

-- `(c FIRST REST)`
abbrev pub pair_code : Tree → Tree → Tree
pair_code first rest = operator_code NEW_PAIR (first ∷ rest ∷ [])

-- `(a (i TEST THEN ELSE) 1)`: what is chosen is run.
abbrev pub if_code : Tree → Tree → Tree → Tree
if_code test then_part else_part = operator_code APPLY (operator_code CHOICE (test ∷ then_part ∷ else_part ∷ []) ∷ path_code [] ∷ [])
