use Rattle.std.proofs.Common.{◌≡◌, drop}
use Rattle.std.specs.List.{list_any}
use Rattle.clvm_spec.specs.Operators.{is_true}
use Rattle.clvm_tree.specs.Operators.{trees_at}
use Rattle.clvm_ops.proofs.truth.is_one_true.Given as goal

abbrev pub invariant-loop-operand : goal.invariant-loop-operand
invariant-loop-operand l = list_any is_true (trees_at l.trees l.operands) ≡ list_any is_true (trees_at l.trees (drop l.operand-index l.operands))
