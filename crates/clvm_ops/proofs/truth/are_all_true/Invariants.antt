use Rattle.std.proofs.Common.{◌≡◌, drop}
use Rattle.std.specs.List.{list_all}
use Rattle.clvm_spec.specs.Operators.{is_true}
use Rattle.clvm_tree.specs.Operators.{trees_at}
use Rattle.clvm_ops.proofs.truth.are_all_true.Given as goal

abbrev pub invariant-loop-operand : goal.invariant-loop-operand
invariant-loop-operand l = list_all is_true (trees_at l.trees l.operands) ≡ list_all is_true (trees_at l.trees (drop l.operand-index l.operands))
