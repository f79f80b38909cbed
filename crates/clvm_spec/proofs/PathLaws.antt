-- A path is followed so whatever bounds how many bits it has.
use Rattle.std.proofs.Common.{pow-add, ◌≡◌, ℕ, zero, suc, ◌+◌, ◌*◌, ◌/◌, ◌%◌, ◌^◌, ◌<◌, ◌≤◌, true, false, leb, length, refl, sym, ◌∙◌, ap, ⊎_elim, arith}
use Rattle.std.proofs.lemmas.Bool.{cond-true, cond-false, cases_lt}
use Rattle.std.proofs.lemmas.Bool.Decides.{nat_tests}
use Rattle.std.proofs.lemmas.Int.Digits.{number_lt}
use Rattle.std.proofs.Math.Nat.{pow-suc, mul_comm, pow-le-pow_right}
use Rattle.clvm_spec.specs.Tree.{Tree, Atom, Pair}
use Rattle.clvm_spec.specs.Numbers.{unsigned}
use Rattle.clvm_spec.specs.Path.{PathValue, Reached, stepped, side, followed}
use Rattle.clvm_spec.specs.PathLaws.{PathsAreWithinTheirBits}

ended : (bound bits steps : ℕ) (tree : Tree) → bits ≤ 1 → followed bound bits steps tree ≡ Reached tree steps
unfolding followed
ended zero bits steps tree h = refl
ended (suc bound) bits steps tree h = let e : leb bits 1 ≡ true = grind (arith, nat_tests) in cond-true (leb bits 1) _ _ e

on : (bound bits steps : ℕ) (tree : Tree) → 1 < bits → followed (suc bound) bits steps tree ≡ stepped (followed bound (bits / 2) (suc steps)) (bits % 2) tree
unfolding followed
on bound bits steps tree h = let e : leb bits 1 ≡ false = grind (arith, nat_tests) in cond-false (leb bits 1) _ _ e

same_step : (x y : Tree → PathValue) (bit : ℕ) (tree : Tree) → ((t : Tree) → x t ≡ y t) → stepped x bit tree ≡ stepped y bit tree
same_step x y bit (Atom bytes) e = refl
same_step x y bit (Pair first rest) e = e (side bit first rest)

half_below : (bound bits : ℕ) → bits < 2 ^ suc bound → bits / 2 < 2 ^ bound
half_below bound bits h = let power : 2 ^ suc bound ≡ 2 ^ bound * 2 = pow-suc 2 bound in omega arith

-- any two bounds on the bits
same_bound : (a b bits steps : ℕ) (tree : Tree) → bits < 2 ^ a → bits < 2 ^ b → followed a bits steps tree ≡ followed b bits steps tree
same_bound zero b bits steps tree h k = let small : bits ≤ 1 = omega arith in ended zero bits steps tree small ∙ sym (ended b bits steps tree small)
same_bound (suc a) zero bits steps tree h k = let small : bits ≤ 1 = omega arith in ended (suc a) bits steps tree small ∙ sym (ended zero bits steps tree small)
same_bound (suc a) (suc b) bits steps tree h k =
    ⊎_elim (λ (more : 1 < bits).
    on a bits steps tree more
    ∙ same_step (followed a (bits / 2) (suc steps)) (followed b (bits / 2) (suc steps)) (bits % 2) tree
    (λ t. same_bound a b (bits / 2) (suc steps) t (half_below a bits h) (half_below b bits k))
    ∙ sym (on b bits steps tree more))
    (λ (small : bits ≤ 1). ended (suc a) bits steps tree small ∙ sym (ended (suc b) bits steps tree small))
    (cases_lt 1 bits)

bits_of_bytes : (n : ℕ) → 256 ^ n ≡ 2 ^ (8 * n)
bits_of_bytes zero = refl
bits_of_bytes (suc n) =
    let eight : 8 * suc n ≡ 8 + 8 * n = omega arith in
    pow-suc 256 n ∙ ap (λ p. p * 256) (bits_of_bytes n) ∙ mul_comm (2 ^ (8 * n)) 256 ∙ sym (pow-add 2 8 (8 * n)) ∙ ap (λ k. 2 ^ k) (sym eight)

less_power : (bits a b : ℕ) → a ≤ b → bits < 2 ^ a → bits < 2 ^ b
less_power bits a b h k = let more : 2 ^ a ≤ 2 ^ b = pow-le-pow_right (omega arith) h in omega arith

pub paths_law : PathsAreWithinTheirBits
paths_law bound steps path env bytes h =
    let below : unsigned path < 2 ^ (8 * length path) = omega (arith, number_lt 256 path bytes, bits_of_bytes (length path)) in
    same_bound bound (8 * length path) (unsigned path) steps env (less_power (unsigned path) (8 * length path) bound h below) below
