use Rattle.std.proofs.Common.{◌∙◌, ap, ◌*ℤ◌, arith}
use Rattle.std.specs.Int.{w128}
use Rattle.std.proofs.lemmas.Int.{to_z-of_z, to_z_pos}
use Rattle.std.proofs.lemmas.Nat.{one_shl, pow_below}
use Rattle.clvm_spec.specs.Arithmetic.{if_fits}
use Rattle.clvm_ops.proofs.Fits.{checked, far_left}
use Rattle.clvm_ops.proofs.arithmetic.shifted_left.Goals as goal
use Rattle.clvm_ops.proofs.arithmetic.shifted_left.Goals.{else-number-eqminus1-via-then-number-eqminus1+else-by-eq127, else-number-eqminus1-via-else-number-eqminus1}

pub returns-then-by-lt127 : goal.returns-then-by-lt127
returns-then-by-lt127 c =
    let h = simp (to_z-of_z, c.ranges.number) at c.checked_mul.ensures in
    let power = one_shl c.args.by 128 (omega arith) in
    checked _ _ h ∙ ap (λ p. if_fits (c.args.number *ℤ p)) (rw power (to_z_pos w128 _ (pow_below c.args.by 127 c.if-by-lt127.true)))

pub returns-else-number-eqminus1 : goal.returns-else-number-eqminus1
returns-else-number-eqminus1 c = far_left c.args.number c.args.by (omega arith) c.if-number-eq0.false
    (elim c.else-number-eqminus1.branch [ else-number-eqminus1-via-then-number-eqminus1+else-by-eq127 w ↦ λ _ e. w.if-by-eq127.false e | else-number-eqminus1-via-else-number-eqminus1 w ↦ λ e _. w.if-number-eqminus1.false e ])
