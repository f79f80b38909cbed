-- What a division rounded down leaves, by the remainder that isn't negative.
use Rattle.std.proofs.Common.{◌≡◌, ℕ, zero, suc, ◌+◌, ◌-◌, ◌*◌, ◌/◌, ◌%◌, ◌<◌, ℤ, pos, negsuc, neg_ℤ, ◌+ℤ◌, ◌-ℤ◌, ◌*ℤ◌, ◌<ℤ◌, false, cond, refl, sym, ap, ◌∙◌, arith}
use Rattle.std.proofs.lemmas.Nat.{div-add-mod'}
use Rattle.std.proofs.lemmas.Int.{ints}
use Rattle.std.specs.Int.{int_div_euclid, int_rem_euclid}
use lib.IntN.{pred_ℤ, pred_ℤ-*ℤ, *ℤ_comm, -ℤ_one}
use Rattle.clvm_spec.specs.Arithmetic.{is_zero, remainder}
use Rattle.clvm_spec.proofs.Floor.{lowered, quotient_lowered}

by_both : (a b q r : ℕ) → q * suc b + r ≡ a → pos a -ℤ pos (suc b * q) ≡ pos r
by_both a b q r e = omega (arith, ints)

by_divisor : (a b q r : ℕ) → q * suc b + r ≡ a → pos a -ℤ negsuc b *ℤ neg_ℤ (pos q) ≡ pos r
by_divisor a b zero r e = omega (arith, ints)
by_divisor a b (suc q) r e = omega (arith, ints)

by_number : (a b q r : ℕ) → q * suc b + r ≡ a → r < suc b → negsuc a -ℤ neg_ℤ (pos (suc b * suc q)) ≡ pos (suc b - 1 - r)
by_number a b q r e h = omega (arith, ints)

-- number, divisor, quotient and rest
euclid : (n d : ℤ) → is_zero d ≡ false → n -ℤ (d *ℤ int_div_euclid n d) ≡ int_rem_euclid n d
euclid (pos a) (pos zero) some = cc
euclid (pos a) (pos (suc b)) some = by_both a b (a / suc b) (a % suc b) (div-add-mod' a (suc b))
euclid (pos a) (negsuc b) some = by_divisor a b (a / suc b) (a % suc b) (div-add-mod' a (suc b))
euclid (negsuc a) (pos zero) some = cc
euclid (negsuc a) (pos (suc b)) some = by_number a b (a / suc b) (a % suc b) (div-add-mod' a (suc b)) (omega arith)
euclid (negsuc a) (negsuc b) some = by_number a b (a / suc b) (a % suc b) (div-add-mod' a (suc b)) (omega arith)

one_less : (d q : ℤ) → d *ℤ (q -ℤ pos 1) ≡ d *ℤ q -ℤ d
one_less d q = ap (λ k. d *ℤ k) (-ℤ_one q) ∙ *ℤ_comm d (pred_ℤ q) ∙ pred_ℤ-*ℤ q d ∙ ap (λ k. k -ℤ d) (*ℤ_comm q d)

further : (n d q r : ℤ) → n -ℤ (d *ℤ q) ≡ r → r +ℤ d ≡ n -ℤ (d *ℤ (q -ℤ pos 1))
further n d q r e = let less = one_less d q in omega (arith, ints)

by_rest : (n d q r : ℤ) → n -ℤ (d *ℤ q) ≡ r → cond (is_zero r) r (r +ℤ d) ≡ n -ℤ (d *ℤ lowered q r)
by_rest n d q (pos zero) e = sym e
by_rest n d q (pos (suc r)) e = further n d q (pos (suc r)) e
by_rest n d q (negsuc r) e = further n d q (negsuc r) e

-- by a divisor below 0
pub rest_below : (n d : ℤ) (r : ℤ) → d <ℤ pos 0 → r ≡ int_rem_euclid n d → cond (is_zero r) r (r +ℤ d) ≡ remainder n d
rest_below n (pos b) r h e = absurd (omega (arith, ints))
rest_below n (negsuc b) r h e =
    by_rest n (negsuc b) (int_div_euclid n (negsuc b)) r (euclid n (negsuc b) refl ∙ sym e)
    ∙ ap (λ r. n -ℤ (negsuc b *ℤ lowered (int_div_euclid n (negsuc b)) r)) e
    ∙ ap (λ q. n -ℤ (negsuc b *ℤ q)) (sym (quotient_lowered n b))
