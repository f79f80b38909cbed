use Rattle.std.proofs.Common.{◌≡◌, ℕ, Option, Some, None, List, ap, ◌∙◌, IfNone}
use Rattle.clvm_spec.specs.declared.fuel.Fuel.{Fuel}
use Rattle.clvm_spec.specs.Tree.{Tree, Atom}
use Rattle.clvm_spec.specs.OperatorTable.{operator_at, applied_by, applied, within}
use Rattle.clvm_tree.specs.Operators.{outcome_by}
use Rattle.clvm_ops.proofs.core_ops.code_of.Goals as goal

no_operator : (byte : Option ℕ) (tree : Tree) (bytes : List ℕ) → tree ≡ Atom bytes → IfNone byte (operator_at bytes ≡ None)
    → IfNone byte ((operands : List Tree) (left : Fuel) → outcome_by tree operands left ≡ within left (applied_by None operands))
unfolding applied
no_operator (Some byte) tree bytes is none = tt
no_operator None tree bytes is none = λ operands left. ap (λ t. outcome_by t operands left) is ∙ ap (λ row. within left (applied_by row operands)) none

pub returns-in-Bytes-clause-none : goal.returns-in-Bytes-clause-none
returns-in-Bytes-clause-none c = no_operator c.one_byte.result _ c.in-Bytes.bytes.now c.in-Bytes.ensures c.one_byte.ensures.none
