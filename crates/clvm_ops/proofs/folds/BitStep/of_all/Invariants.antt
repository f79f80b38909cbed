use Rattle.std.proofs.Common.{◌≡◌, drop}
use Rattle.std.specs.Prelude.{fold}
use Rattle.clvm_spec.specs.Operators.{joined}
use Rattle.clvm_ops.specs.Folds.{numbers_at, bitwise_of}
use Rattle.clvm_ops.proofs.folds.BitStep.of_all.Given as goal

abbrev pub invariant-loop-operand : goal.invariant-loop-operand
invariant-loop-operand l = joined (bitwise_of l.self) (numbers_at l.trees l.operands) ≡ fold (bitwise_of l.self).step l.bits (numbers_at l.trees (drop l.operand-index l.operands))
