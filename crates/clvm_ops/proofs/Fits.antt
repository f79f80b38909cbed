-- Which numbers 128 bits hold.
use Rattle.std.proofs.Common.{◌≡◌, ℕ, zero, suc, ◌+◌, ◌-◌, ◌*◌, ◌/◌, ◌^◌, ◌<◌, ◌≤◌, ℤ, pos, negsuc, neg_ℤ, ◌*ℤ◌, ◌<ℤ◌, ◌≤ℤ◌, true, false, Option, Some, None, FitsSigned, refl, sym, ap, ◌∙◌, lit<, arith}
use Rattle.std.proofs.Math.Nat.{pow-le-pow_right, div-eq_of_lt, mul-le-mul_right}
use Rattle.std.proofs.lemmas.Nat.{shr_below}
use Rattle.std.proofs.lemmas.Bool.{lt-ltb, le-ltb, cond-true, cond-false}
use Rattle.std.proofs.lemmas.Int.{ints}
use Rattle.std.specs.Int.{w128, int_shr, cast_unsigned}
use Rattle.std.specs.Option.{SomeIff}
use Rattle.clvm_tree.proofs.HeldNumbers.{is_held}
use Rattle.clvm_spec.specs.Arithmetic.{fits_128, if_fits, shifted}

unfit : (n : ℤ) → (FitsSigned w128 n → ⊥) → fits_128 n ≡ false
unfit (pos n) h = le-ltb n (2 ^ 127) (omega (arith, λ (k : n < 2 ^ 127). h (record { sfits = k })))
unfit (negsuc n) h = le-ltb n (2 ^ 127) (omega (arith, λ (k : n < 2 ^ 127). h (record { sfits = k })))

not_held : (n : ℤ) → fits_128 n ≡ false → if_fits n ≡ None
not_held n h = cond-false _ _ _ h

pub too_wide : (n : ℤ) → ¬ FitsSigned w128 n → if_fits n ≡ None
too_wide n h = not_held n (unfit n h)

-- what the checked operations answer
pub checked : (r : Option ℤ) (n : ℤ) → SomeIff r (FitsSigned w128 n) n → r ≡ if_fits n
checked None n h = sym (too_wide n h)
checked (Some x) n h = ap Some h.1 ∙ sym (is_held n h.0)

large : (by : ℕ) → 127 ≤ by → 2 ^ 127 ≤ 2 ^ by
large by h = pow-le-pow_right (lit< tt) h

larger : (by : ℕ) → 128 ≤ by → 2 ^ 128 ≤ 2 ^ by
larger by h = pow-le-pow_right (lit< tt) h

some_times_large : (n by : ℕ) → 127 ≤ by → (n ≡ 0 → ⊥) → fits_128 (pos (n * 2 ^ by)) ≡ false
some_times_large zero by h some = absurd (some refl)
some_times_large (suc n) by h some = le-ltb (suc n * 2 ^ by) (2 ^ 127) (omega (arith, large by h, mul-le-mul_right {m = 1} {n = suc n} (2 ^ by) (omega arith)))

negative_unfit : (k : ℕ) → 2 ^ 127 < k → fits_128 (neg_ℤ (pos k)) ≡ false
negative_unfit zero h = absurd (omega arith)
negative_unfit (suc k) h = le-ltb k (2 ^ 127) (omega arith)

shifted_far : (n : ℤ) (by : ℕ) → 127 ≤ by → (cast_unsigned w128 n ≡ 0 → ⊥) → (cast_unsigned w128 n ≡ 2 ^ 128 - 1 → by ≡ 127 → ⊥) → fits_128 (n *ℤ pos (2 ^ by)) ≡ false
shifted_far (pos n) by h some lowest = some_times_large n by h some
shifted_far (negsuc zero) by h some lowest = negative_unfit (1 * 2 ^ by) (omega (arith, larger by (omega (arith, λ (e : by ≡ 127). lowest refl e))))
shifted_far (negsuc (suc n)) by h some lowest = negative_unfit (suc (suc n) * 2 ^ by) (omega (arith, large by h, mul-le-mul_right {m = 2} {n = suc (suc n)} (2 ^ by) (omega arith)))

-- Nothing but 0, and -1 at 127, is held after so large a shift.
pub far_left : (n : ℤ) (by : ℕ) → 127 ≤ by → (cast_unsigned w128 n ≡ 0 → ⊥) → (cast_unsigned w128 n ≡ 2 ^ 128 - 1 → by ≡ 127 → ⊥) → None ≡ if_fits (n *ℤ pos (2 ^ by))
far_left n by h some lowest = sym (not_held (n *ℤ pos (2 ^ by)) (shifted_far n by h some lowest))

pub far_bits_left : (n by : ℕ) → 127 ≤ by → (n ≡ 0 → ⊥) → None ≡ if_fits (pos (n * 2 ^ by))
far_bits_left n by h some = sym (not_held (pos (n * 2 ^ by)) (some_times_large n by h some))

-- To the right is by a number below 0.
pub to_right : (n : ℤ) (by : ℕ) → int_shr n by ≡ shifted n (neg_ℤ (pos by))
to_right (pos n) zero = ap pos (omega arith)
to_right (negsuc n) zero = omega (arith, ints)
to_right n (suc by) = refl

below_large : (n by : ℕ) → n < 2 ^ 127 → 128 ≤ by → n / 2 ^ by ≡ 0
below_large n by h far = div-eq_of_lt (omega (arith, larger by far))

pub far_right_negative : (n : ℤ) (by : ℕ) → FitsSigned w128 n → 128 ≤ by → n <ℤ pos 0 → negsuc 0 ≡ int_shr n by
far_right_negative (pos n) by h far sign = absurd (omega (arith, ints))
far_right_negative (negsuc n) by h far sign = ap negsuc (sym (below_large n by h.sfits far))

pub far_right : (n : ℤ) (by : ℕ) → FitsSigned w128 n → 128 ≤ by → pos 0 ≤ℤ n → pos 0 ≡ int_shr n by
far_right (pos n) by h far sign = ap pos (sym (below_large n by h.sfits far))
far_right (negsuc n) by h far sign = absurd (omega (arith, ints))

-- without sign
pub halved : (n by : ℕ) → n < 2 ^ 128 → 0 < by → n / 2 ^ by < 2 ^ 127
halved n by h some = shr_below n 127 by (omega (arith, pow-le-pow_right {n = 2} (lit< tt) {i = 128} {j = 127 + by} (omega arith)))

pub far_bits_right : (n by : ℕ) → n < 2 ^ 128 → 128 ≤ by → n / 2 ^ by ≡ 0
far_bits_right n by h far = div-eq_of_lt (omega (arith, larger by far))
