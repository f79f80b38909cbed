-- What a quotient rounded down leaves.
use Rattle.std.proofs.Common.{◌≡◌, zero, suc, ℤ, pos, negsuc, ◌+ℤ◌, ◌-ℤ◌, ◌*ℤ◌, arith}
use Rattle.std.proofs.lemmas.Nat.{div-add-mod'}
use Rattle.std.proofs.lemmas.Int.{ints}
use Rattle.clvm_spec.specs.Arithmetic.{quotient}
use Rattle.clvm_spec.specs.Laws.{RemainderIsLeft, RoundsDownAboveZero, RoundsDownBelowZero}

left : (n p : ℤ) → n ≡ p +ℤ (n -ℤ p)
left n p = omega (arith, ints)

pub remainder_is_left : RemainderIsLeft
remainder_is_left n d = left n (d *ℤ quotient n d)

pub rest_above_zero : RoundsDownAboveZero
rest_above_zero (pos a) (pos zero) h = absurd (omega (arith, ints))
rest_above_zero (pos a) (pos (suc b)) h =
    let whole = div-add-mod' a (suc b) in
    (omega (arith, ints), omega (arith, ints))
rest_above_zero (negsuc a) (pos zero) h = absurd (omega (arith, ints))
rest_above_zero (negsuc a) (pos (suc b)) h =
    let whole = div-add-mod' a (suc b) in
    (omega (arith, ints), omega (arith, ints))
rest_above_zero n (negsuc b) h = absurd (omega (arith, ints))

pub rest_below_zero : RoundsDownBelowZero
rest_below_zero n (pos b) h = absurd (omega (arith, ints))
rest_below_zero (pos zero) (negsuc b) h = (omega (arith, ints), omega (arith, ints))
rest_below_zero (pos (suc a)) (negsuc b) h =
    let whole = div-add-mod' a (suc b) in
    (omega (arith, ints), omega (arith, ints))
rest_below_zero (negsuc a) (negsuc b) h =
    let whole = div-add-mod' (suc a) (suc b) in
    (omega (arith, ints), omega (arith, ints))
