-- One more byte of a number of at most 16 bytes.
use Rattle.std.proofs.Common.{◌≡◌, ℕ, zero, suc, ◌+◌, ◌*◌, ◌-◌, ◌^◌, ◌<◌, ◌≤◌, List, [], ◌∷◌, length, map, take, get_or, negsuc, ◌-ℤ◌, to_z, of_z, refl, sym, ◌∙◌, ap, arith}
use Rattle.std.specs.Int.Digits.{AllBelowBase}
use Rattle.std.proofs.lemmas.List.{length-take-le, length-map}
use Rattle.std.proofs.lemmas.Int.Digits.{number_lt, number_more}
use Rattle.std.proofs.Math.Nat.{pow-le-pow_right}
use Rattle.std.specs.Int.{w128}
use Rattle.std.proofs.lemmas.Int.{ints}
use Rattle.clvm_spec.specs.Numbers.{unsigned}
use Rattle.clvm_spec.proofs.NumberLaws.{unsigned_below, all_turned}

all_taken : (k : ℕ) (bytes : List ℕ) → AllBelowBase 256 bytes → AllBelowBase 256 (take k bytes)
all_taken zero bytes h = tt
all_taken (suc k) [] h = tt
all_taken (suc k) (b ∷ bytes) h = (h.0, all_taken k bytes h.1)

-- Sixteen bytes write a number of 128 bits.
pub unsigned_fits : (bytes : List ℕ) → AllBelowBase 256 bytes → length bytes ≤ 16 → unsigned bytes < 2 ^ 128
unsigned_fits bytes h short =
    let top : 256 ^ length bytes ≤ 256 ^ 16 = pow-le-pow_right (omega arith) short in
    let low = number_lt 256 bytes h in
    omega (arith, low, top)

pub digit_more : (bytes : List ℕ) (i value : ℕ) → i < length bytes → value ≡ unsigned (take i bytes) → value * 256 + get_or bytes i 0 ≡ unsigned (take (i + 1) bytes)
digit_more bytes i value within so_far = ap (λ v. v * 256 + get_or bytes i 0) so_far ∙ sym (number_more 256 bytes i within)

pub digit_fits : (bytes : List ℕ) (i value : ℕ) → AllBelowBase 256 bytes → i < length bytes → length bytes ≤ 16 → value ≡ unsigned (take i bytes) → value * 256 + get_or bytes i 0 < 2 ^ 128
digit_fits bytes i value h within short so_far =
    let more = digit_more bytes i value within so_far in
    let long = length-take-le (i + 1) bytes (omega arith) in
    omega (arith, more, unsigned_fits (take (i + 1) bytes) (all_taken (i + 1) bytes h) (omega (arith, long)))

pub get_or-turned : (bytes : List ℕ) (i : ℕ) → i < length bytes → get_or (map (λ b. 255 - b) bytes) i 0 ≡ 255 - get_or bytes i 0
get_or-turned [] i h = absurd (omega arith)
get_or-turned (b ∷ bytes) zero h = refl
get_or-turned (b ∷ bytes) (suc i) h = get_or-turned bytes i (omega arith)

-- Numbers of at most 16 bytes fit 128 bits with their sign.
half_fits : (bytes : List ℕ) (n : ℕ) → length bytes ≤ 15 → n < 128 * 256 ^ length bytes → n < 2 ^ 127
half_fits bytes n short below =
    let top : 256 ^ length bytes ≤ 256 ^ 15 = pow-le-pow_right (omega arith) short in
    omega (arith, below, top)

pub positive_fits : (bytes : List ℕ) → AllBelowBase 256 bytes → length bytes ≤ 16 → get_or bytes 0 0 < 128 → unsigned bytes < 2 ^ 127
positive_fits [] h short low = omega arith
positive_fits (b ∷ bytes) h short low = half_fits bytes (unsigned (b ∷ bytes)) (omega arith) (unsigned_below b 128 bytes h.1 low)

pub negative_fits : (bytes : List ℕ) → length bytes ≤ 16 → 1 ≤ length bytes → 128 ≤ get_or bytes 0 0 → unsigned (map (λ b. 255 - b) bytes) < 2 ^ 127
negative_fits [] short some high = absurd (omega arith)
negative_fits (b ∷ bytes) short some high =
    let turned = map (λ b. 255 - b) bytes in
    half_fits turned (unsigned (map (λ b. 255 - b) (b ∷ bytes))) (omega (arith, length-map bytes (λ (b : ℕ). 255 - b))) (unsigned_below (255 - b) 128 turned (all_turned bytes) (omega arith))

-- -1 less a number of 127 bits
pub minus_one_less : (n : ℕ) → n < 2 ^ 127 → to_z w128 (of_z w128 (negsuc 0 -ℤ to_z w128 n)) ≡ negsuc n
minus_one_less n small = omega (arith, ints)
