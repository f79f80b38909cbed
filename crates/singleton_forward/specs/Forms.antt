-- The parts of a form whose first operand is quoted. Source: Chialisp reference.
use Rattle.std.specs.Prelude.{◌≡◌, ℕ, ◌<◌, ◌&&◌, List, Option, Some, None, if◌then◌else◌}
use Rattle.clvm_spec.specs.declared.op_codes.TheConstants.{QUOTE}
use Rattle.clvm_spec.specs.Tree.{Tree, Pair}
use Rattle.clvm_tree.specs.Nodes.{tree_at}
use Rattle.clvm_spec.specs.Operators.{is_nil}
use Rattle.clvm_spec.specs.Evaluation.{is_code}

-- the quoted tree and the last operand of `(OPERATOR (q . QUOTED) LAST)`
abbrev pub form_parts : ℕ → Tree → Option (Tree × Tree)
form_parts operator (Pair head (Pair (Pair q quoted) (Pair last end))) =
    if is_code operator head && (is_code QUOTE q && is_nil end) then Some (quoted, last) else None
form_parts operator other = None

-- The node is such a form, and its parts were there before it.
pub record HasFormParts (trees : List Tree) (operator node quoted last : ℕ) : Type 0 where
  pub parts : form_parts operator (tree_at trees node) ≡ Some (tree_at trees quoted, tree_at trees last)
  pub quoted_earlier : quoted < node
  pub last_earlier : last < node
