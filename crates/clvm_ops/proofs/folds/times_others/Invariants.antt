use Rattle.std.proofs.Common.{◌+◌, ◌*ℤ◌}
use Rattle.clvm_spec.specs.Operators.{from_left, factors_cost, new_number}
use Rattle.clvm_ops.specs.OperandAtoms.{atoms_at}
use Rattle.clvm_ops.specs.Folds.{numbers_at}
use Rattle.clvm_ops.proofs.FoldLaws.{ProductSoFar}
use Rattle.clvm_ops.proofs.folds.times_others.Given as goal

abbrev pub invariant-loop-other : goal.invariant-loop-other
invariant-loop-other l =
    ProductSoFar l.trees l.others l.other-index (from_left ◌*ℤ◌ l.fn.first (numbers_at l.trees l.others) (new_number (l.fn.cost + factors_cost l.fn.size l.fn.first (atoms_at l.trees l.others)))) l.cost l.size l.number
