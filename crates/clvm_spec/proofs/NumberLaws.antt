-- The numbers that bytes write.
use Rattle.std.proofs.Common.{◌≡◌, ℕ, suc, ◌+◌, ◌*◌, ◌-◌, ◌^◌, ◌<◌, ◌≤◌, List, [], ◌∷◌, true, false, cond, length, map, take, drop, get_or, refl, sym, ◌∙◌, ap, subst, arith}
use Rattle.std.specs.Int.Digits.{AllBelowBase, number_from_digits_after}
use Rattle.std.proofs.lemmas.Int.Digits.{number_after_lt}
use Rattle.std.proofs.Math.Nat.{mul-le-mul_right}
use Rattle.std.proofs.lemmas.List.{take_rest}
use Rattle.clvm_spec.specs.Numbers.{unsigned, has_sign_byte, without_sign_bytes}

-- what a proof knows of the bytes of a slice
pub all_bytes : (bytes : List ℕ) → ((i : ℕ) → get_or bytes i 0 < 256) → AllBelowBase 256 bytes
all_bytes [] h = tt
all_bytes (b ∷ bytes) h = (h 0, all_bytes bytes (λ i. h (suc i)))

-- the bytes turned round
pub all_turned : (bytes : List ℕ) → AllBelowBase 256 (map (λ b. 255 - b) bytes)
all_turned [] = tt
all_turned (b ∷ bytes) = (omega arith, all_turned bytes)

-- A first byte bounds the number.
pub unsigned_below : (b n : ℕ) (bytes : List ℕ) → AllBelowBase 256 bytes → b < n → unsigned (b ∷ bytes) < n * 256 ^ length bytes
unsigned_below b n bytes h lt =
    let first : 0 * 256 + b ≡ b = omega arith in
    let low : unsigned (b ∷ bytes) < (b + 1) * 256 ^ length bytes = subst (λ n. number_from_digits_after 256 n bytes < (b + 1) * 256 ^ length bytes) (sym first) (number_after_lt 256 b bytes h) in
    let next : b + 1 ≤ n = omega arith in
    let top = mul-le-mul_right (256 ^ length bytes) next in
    omega (arith, low, top)

pub sign_byte_goes : (bytes : List ℕ) → has_sign_byte bytes ≡ true → without_sign_bytes (take (length bytes - 1) (drop 1 bytes)) ≡ without_sign_bytes bytes
unfolding without_sign_bytes
sign_byte_goes [] h = refl
sign_byte_goes (b ∷ bytes) h =
    ap without_sign_bytes (take_rest (b ∷ bytes) 1) ∙ sym (ap (λ t. cond t (without_sign_bytes bytes) (b ∷ bytes)) h)

pub no_sign_byte : (bytes : List ℕ) → has_sign_byte bytes ≡ false → without_sign_bytes bytes ≡ bytes
unfolding without_sign_bytes
no_sign_byte [] h = refl
no_sign_byte (b ∷ bytes) h = ap (λ t. cond t (without_sign_bytes bytes) (b ∷ bytes)) h
