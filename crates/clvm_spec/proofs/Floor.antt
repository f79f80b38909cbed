-- Division rounded down, by the quotient whose remainder isn't negative.
use Rattle.std.proofs.Common.{◌≡◌, ℕ, zero, suc, ◌+◌, ◌-◌, ◌*◌, ◌/◌, ◌%◌, ◌<◌, ℤ, pos, negsuc, neg_ℤ, ◌-ℤ◌, ◌<ℤ◌, cond, refl, sym, ap, ap₂, ◌∙◌, arith}
use Rattle.std.proofs.lemmas.Nat.{div-mul-add, div-add-mod'}
use Rattle.std.proofs.lemmas.Int.{ints}
use Rattle.std.proofs.Math.Nat.{div-one}
use Rattle.std.specs.Int.{int_div_euclid, int_rem_euclid}
use Rattle.clvm_spec.specs.Arithmetic.{is_zero, quotient}

exact_from : (a b q : ℕ) → q * suc b ≡ suc a → q ≡ suc (a / suc b)
exact_from a b zero e = absurd (omega arith)
exact_from a b (suc q) e =
    let under : a ≡ q * suc b + b = omega arith in
    ap suc (sym (ap (λ n. n / suc b) under ∙ div-mul-add q (suc b) b (omega arith)))

-- one more divided: the quotient goes up where nothing is left
div_exact : (a b : ℕ) → suc a % suc b ≡ 0 → suc a / suc b ≡ suc (a / suc b)
div_exact a b e = let whole = div-add-mod' (suc a) (suc b) in exact_from a b (suc a / suc b) (omega arith)

rest_from : (a b q r : ℕ) → q * suc b + suc r ≡ suc a → suc r < suc b → q ≡ a / suc b
rest_from a b q r e h =
    let under : a ≡ q * suc b + r = omega arith in
    sym (ap (λ n. n / suc b) under ∙ div-mul-add q (suc b) r (omega arith))

div_rest : (a b r : ℕ) → suc a % suc b ≡ suc r → suc a / suc b ≡ a / suc b
div_rest a b r e = let whole = div-add-mod' (suc a) (suc b) in
    let small : suc a % suc b < suc b = omega arith in
    rest_from a b (suc a / suc b) r (omega arith) (omega arith)

-- what the quotient rounded down is to the one whose remainder isn't negative
abbrev pub lowered : ℤ → ℤ → ℤ
lowered q r = cond (is_zero r) q (q -ℤ pos 1)

minus_one : (q : ℕ) → negsuc q ≡ neg_ℤ (pos q) -ℤ pos 1
minus_one zero = refl
minus_one (suc q) = ap negsuc (omega arith)

below : (q : ℕ) → pos q ≡ pos (suc q) -ℤ pos 1
below q = omega (arith, ints)

by_rest : (a b r : ℕ) → suc a % suc b ≡ r → negsuc (a / suc b) ≡ lowered (neg_ℤ (pos (suc a / suc b))) (pos r)
by_rest a b zero e = sym (ap (λ n. neg_ℤ (pos n)) (div_exact a b e))
by_rest a b (suc r) e = minus_one (a / suc b) ∙ ap (λ n. neg_ℤ (pos n) -ℤ pos 1) (sym (div_rest a b r e))

next_exact : (a b q w : ℕ) → q * suc b + w ≡ a → suc b - 1 - w ≡ 0 → w < suc b → suc a / suc b ≡ suc q
next_exact a b q w e h k =
    let whole : suc a ≡ suc q * suc b + 0 = omega arith in
    ap (λ n. n / suc b) whole ∙ div-mul-add (suc q) (suc b) 0 (omega arith)

next_rest : (a b q w r : ℕ) → q * suc b + w ≡ a → suc b - 1 - w ≡ suc r → suc a / suc b ≡ q
next_rest a b q w r e h =
    let whole : suc a ≡ q * suc b + suc w = omega arith in
    ap (λ n. n / suc b) whole ∙ div-mul-add q (suc b) (suc w) (omega arith)

by_next : (a b r : ℕ) → suc b - 1 - a % suc b ≡ r → pos (suc a / suc b) ≡ lowered (pos (suc (a / suc b))) (pos r)
by_next a b zero e = ap pos (next_exact a b (a / suc b) (a % suc b) (div-add-mod' a (suc b)) e (omega arith))
by_next a b (suc r) e = ap pos (next_rest a b (a / suc b) (a % suc b) r (div-add-mod' a (suc b)) e) ∙ below (a / suc b)

-- by a divisor below 0
pub quotient_lowered : (n : ℤ) (b : ℕ) → quotient n (negsuc b) ≡ lowered (int_div_euclid n (negsuc b)) (int_rem_euclid n (negsuc b))
quotient_lowered (pos zero) b =
    let d : 0 / suc b ≡ 0 = omega arith in let m : 0 % suc b ≡ 0 = omega arith in
    sym (ap₂ (λ q r. lowered (neg_ℤ (pos q)) (pos r)) d m)
quotient_lowered (pos (suc a)) b = by_rest a b (suc a % suc b) refl
quotient_lowered (negsuc a) b = by_next a b (suc b - 1 - a % suc b) refl

-- by a divisor above 0
pub quotient_same : (n : ℤ) (b : ℕ) → quotient n (pos b) ≡ int_div_euclid n (pos b)
quotient_same (pos a) b = refl
quotient_same (negsuc a) b = refl

pub quotient-minus_one : (n : ℤ) → quotient n (negsuc 0) ≡ neg_ℤ n
quotient-minus_one (pos zero) = refl
quotient-minus_one (pos (suc a)) = ap negsuc (div-one a)
quotient-minus_one (negsuc a) = ap pos (div-one (suc a))

pub quotient_of-negative : (n d q r : ℤ) → d <ℤ pos 0 → q ≡ int_div_euclid n d → r ≡ int_rem_euclid n d → cond (is_zero r) q (q -ℤ pos 1) ≡ quotient n d
quotient_of-negative n (pos b) q r h e f = absurd (omega (arith, ints))
quotient_of-negative n (negsuc b) q r h e f = ap₂ lowered e f ∙ sym (quotient_lowered n b)
