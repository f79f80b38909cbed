use Rattle.std.proofs.Common.{◌≡◌, ℤ, ◌+ℤ◌, drop}
use Rattle.clvm_spec.specs.Outcomes.{Applied}
use Rattle.clvm_spec.specs.Operators.{from_left}
use Rattle.clvm_ops.specs.Folds.{numbers_at}
use Rattle.clvm_ops.proofs.folds.plus_others.Given as goal

abbrev pub invariant-loop-other : goal.invariant-loop-other
invariant-loop-other l =
    (go : ℤ → Applied) → from_left ◌+ℤ◌ l.fn.first (numbers_at l.trees l.others) go ≡ from_left ◌+ℤ◌ l.sum (numbers_at l.trees (drop l.other-index l.others)) go
