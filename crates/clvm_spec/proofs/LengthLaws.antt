-- How long the shortest atom of a number is, by the bits that the number has beside its sign.
use Rattle.std.proofs.Common.{◌≡◌, ℕ, zero, suc, ◌+◌, ◌*◌, ◌-◌, ◌/◌, ◌^◌, ◌<◌, ◌≤◌, true, false, List, [], ◌∷◌, length, map, drop, get_or, ℤ, pos, negsuc, FitsSigned, refl, sym, ◌∙◌, ap, ap₂, subst, ⊎_elim, arith}
use Rattle.std.specs.Prelude.{slice_range}
use Rattle.std.specs.Int.{w128, bytes_high_first, byte_at, cast_unsigned, leading_zeros}
use Rattle.std.specs.Int.Digits.{AllBelowBase}
use Rattle.std.proofs.lemmas.List.{length-map, take_all}
use Rattle.std.proofs.lemmas.Bool.{cases_lt, cases_Bool}
use Rattle.std.proofs.lemmas.Nat.{div_below, pow-add, leading_length}
use Rattle.std.proofs.Math.Nat.{pow-suc, mod-le}
use Rattle.std.proofs.Math.Pow.{pow_mono}
use Rattle.clvm_spec.specs.Numbers.{unsigned, number, has_sign_byte, without_sign_bytes, shortest_atom}
use Rattle.clvm_spec.proofs.NumberLaws.{all_turned, unsigned_below}
use Rattle.clvm_spec.proofs.ShortestLaws.{wide, number_low, number_high, unsigned-high_first, below_high_first, length-high_first, number-shortest, shortest_is_least, length-without}

-- the bits beside the sign of so many bytes and one more
eights : (l : ℕ) → 128 * 256 ^ l ≡ 2 ^ (8 * l + 7)
eights zero = refl
eights (suc l) =
    let more : 8 * suc l + 7 ≡ 8 + (8 * l + 7) = omega arith in
    let pow : 2 ^ (8 * suc l + 7) ≡ 256 * 2 ^ (8 * l + 7) = ap (λ k. 2 ^ k) more ∙ pow-add 2 8 (8 * l + 7) in
    let same : 256 ^ suc l ≡ 256 * 256 ^ l = omega (arith, pow-suc 256 l) in
    omega (arith, pow, same, eights l)

-- ---- bytes of a number within so many bits

head_small : (l n : ℕ) → n < 128 * 256 ^ l → byte_at l n < 128
head_small zero n h = omega (arith, h, mod-le n 256)
head_small (suc l) n h =
    let below = div_below n (256 ^ suc l) 128 (omega arith) h in
    omega (arith, below, mod-le (n / 256 ^ suc l) 256)

turned_twice : (xs : List ℕ) → AllBelowBase 256 xs → map (λ b. 255 - b) (map (λ b. 255 - b) xs) ≡ xs
turned_twice [] h = refl
turned_twice (x ∷ xs) h =
    let here : 255 - (255 - x) ≡ x = omega (arith, h.0) in
    ap₂ (λ b bs. b ∷ bs) here (turned_twice xs h.1)

fits_bytes : (l n : ℕ) → n < 128 * 256 ^ l → n < 256 ^ suc l
fits_bytes l n h = let same : 256 ^ suc l ≡ 256 * 256 ^ l = omega (arith, pow-suc 256 l) in omega (arith, h, same)

short_positive : (l n : ℕ) → n < 128 * 256 ^ l → length (shortest_atom (pos n)) ≤ suc l
short_positive l n h =
    let bytes = bytes_high_first (suc l) n in
    let is : number bytes ≡ pos n = number_low bytes (head_small l n h) ∙ ap pos (unsigned-high_first (suc l) n (fits_bytes l n h)) in
    omega (arith, ap (λ z. length (shortest_atom z)) is, shortest_is_least bytes (below_high_first (suc l) n), length-high_first (suc l) n)

short_negative : (l n : ℕ) → n < 128 * 256 ^ l → length (shortest_atom (negsuc n)) ≤ suc l
short_negative l n h =
    let plain = bytes_high_first (suc l) n in
    let bytes = map (λ b. 255 - b) plain in
    let long : length bytes ≡ suc l = length-map plain (λ (b : ℕ). 255 - b) ∙ length-high_first (suc l) n in
    let high : 128 ≤ get_or bytes 0 0 = omega (arith, head_small l n h) in
    let is : number bytes ≡ negsuc n = number_high bytes (omega (arith, long)) high ∙ ap (λ bs. negsuc (unsigned bs)) (turned_twice plain (below_high_first (suc l) n)) ∙ ap negsuc (unsigned-high_first (suc l) n (fits_bytes l n h)) in
    omega (arith, ap (λ z. length (shortest_atom z)) is, shortest_is_least bytes (all_turned plain), long)

-- ---- the number of bytes is within their bits

bound_positive : (x n : ℕ) (xs : List ℕ) → AllBelowBase 256 xs → number (x ∷ xs) ≡ pos n → n < 128 * 256 ^ length xs
bound_positive x n xs below e = ⊎_elim
    (λ (h : x < 128). let same : pos (unsigned (x ∷ xs)) ≡ pos n = sym (number_low (x ∷ xs) h) ∙ e in let is : unsigned (x ∷ xs) ≡ n = cc in omega (arith, is, unsigned_below x 128 xs below h))
    (λ (h : 128 ≤ x). let clash : negsuc (unsigned (map (λ b. 255 - b) (x ∷ xs))) ≡ pos n = sym (number_high (x ∷ xs) (omega arith) h) ∙ e in absurd cc)
    (cases_lt x 128)

bound_negative : (x n : ℕ) (xs : List ℕ) → x < 256 → number (x ∷ xs) ≡ negsuc n → n < 128 * 256 ^ length xs
bound_negative x n xs low e = ⊎_elim
    (λ (h : x < 128). let clash : pos (unsigned (x ∷ xs)) ≡ negsuc n = sym (number_low (x ∷ xs) h) ∙ e in absurd cc)
    (λ (h : 128 ≤ x).
    let turned = map (λ (b : ℕ). 255 - b) xs in
    let same : negsuc (unsigned ((255 - x) ∷ turned)) ≡ negsuc n = sym (number_high (x ∷ xs) (omega arith) h) ∙ e in
    let is : unsigned ((255 - x) ∷ turned) ≡ n = cc in
    let bound = unsigned_below (255 - x) 128 turned (all_turned xs) (omega arith) in
    subst (λ l. n < 128 * 256 ^ l) (length-map xs (λ (b : ℕ). 255 - b)) (omega (arith, is, bound)))
    (cases_lt x 128)

below_without : (bytes : List ℕ) → AllBelowBase 256 bytes → AllBelowBase 256 (without_sign_bytes bytes)
unfolding without_sign_bytes shortest_atom
below_without [] h = tt
below_without (b ∷ bytes) h = ⊎_elim
    (λ (t : has_sign_byte (b ∷ bytes) ≡ true). rw t (below_without bytes h.1))
    (λ (f : has_sign_byte (b ∷ bytes) ≡ false). rw f h)
    (cases_Bool (has_sign_byte (b ∷ bytes)))

below_shortest : (n : ℤ) → AllBelowBase 256 (shortest_atom n)
unfolding shortest_atom
below_shortest n = below_without (wide (cast_unsigned w128 n)) (below_high_first 16 (cast_unsigned w128 n))

-- ---- both bounds

-- a number of so many bits isn't within fewer bytes
no_fewer : (n m l : ℕ) → 2 ^ m ≤ 2 * n + 1 → n < 128 * 256 ^ l → m < 8 * suc l
no_fewer n m l large small = ⊎_elim
    (λ (h : m < 8 * suc l). h)
    (λ (h : 8 * suc l ≤ m).
    let power = pow_mono h in
    let more : 8 * suc l ≡ 1 + (8 * l + 7) = omega arith in
    let double : 2 ^ (8 * suc l) ≡ 2 * 2 ^ (8 * l + 7) = ap (λ k. 2 ^ k) more ∙ pow-add 2 1 (8 * l + 7) in
    absurd (omega (arith, power, double, eights l, large, small)))
    (cases_lt m (8 * suc l))

within_bytes : (n m : ℕ) → n < 2 ^ m → n < 128 * 256 ^ (m / 8)
within_bytes n m h =
    let bits : m ≤ 8 * (m / 8) + 7 = omega arith in
    omega (arith, pow_mono bits, eights (m / 8), h)

long_positive : (n m : ℕ) (bytes : List ℕ) → AllBelowBase 256 bytes → number bytes ≡ pos n → 0 < n → 2 ^ m ≤ 2 * n + 1 → m / 8 + 1 ≤ length bytes
long_positive n m [] below e some large = let is : 0 ≡ n = cc in absurd (omega (arith, is, some))
long_positive n m (x ∷ xs) below e some large = omega (arith, no_fewer n m (length xs) large (bound_positive x n xs below.1 e))

long_negative : (n m : ℕ) (bytes : List ℕ) → AllBelowBase 256 bytes → number bytes ≡ negsuc n → 2 ^ m ≤ 2 * n + 1 → m / 8 + 1 ≤ length bytes
long_negative n m [] below e large = absurd cc
long_negative n m (x ∷ xs) below e large = omega (arith, no_fewer n m (length xs) large (bound_negative x n xs below.0 e))

length_positive : (n m : ℕ) → FitsSigned w128 (pos n) → 0 < n → n < 2 ^ m → 2 ^ m ≤ 2 * n + 1 → m / 8 + 1 ≡ length (shortest_atom (pos n))
length_positive n m fits some small large =
    omega (arith, short_positive (m / 8) n (within_bytes n m small), long_positive n m (shortest_atom (pos n)) (below_shortest (pos n)) (number-shortest (pos n) fits) some large)

length_negative : (n m : ℕ) → FitsSigned w128 (negsuc n) → n < 2 ^ m → 2 ^ m ≤ 2 * n + 1 → m / 8 + 1 ≡ length (shortest_atom (negsuc n))
length_negative n m fits small large =
    omega (arith, short_negative (m / 8) n (within_bytes n m small), long_negative n m (shortest_atom (negsuc n)) (below_shortest (negsuc n)) (number-shortest (negsuc n) fits) large)

pub length_zero : 0 ≡ length (shortest_atom (pos 0))
unfolding without_sign_bytes shortest_atom
length_zero = refl

pub length_most : (n : ℤ) → length (shortest_atom n) ≤ 16
unfolding shortest_atom
length_most n = let all = wide (cast_unsigned w128 n) in omega (arith, length-without all, length-high_first 16 (cast_unsigned w128 n))

-- What goes stands in front.
end_is : (bytes : List ℕ) → drop (length bytes - length (without_sign_bytes bytes)) bytes ≡ without_sign_bytes bytes
unfolding without_sign_bytes shortest_atom
end_is [] = refl
end_is (b ∷ bytes) = ⊎_elim
    (λ (t : has_sign_byte (b ∷ bytes) ≡ true).
    let next : suc (length bytes) - length (without_sign_bytes bytes) ≡ suc (length bytes - length (without_sign_bytes bytes)) = omega (arith, length-without bytes) in
    rw t (ap (λ k. drop k (b ∷ bytes)) next ∙ end_is bytes))
    (λ (f : has_sign_byte (b ∷ bytes) ≡ false).
    let nothing : suc (length bytes) - suc (length bytes) ≡ 0 = omega arith in
    rw f (ap (λ k. drop k (b ∷ bytes)) nothing))
    (cases_Bool (has_sign_byte (b ∷ bytes)))

end_of_wide : (n : ℤ) → drop (16 - length (shortest_atom n)) (wide (cast_unsigned w128 n)) ≡ shortest_atom n
unfolding shortest_atom
end_of_wide n =
    let all = wide (cast_unsigned w128 n) in
    ap (λ k. drop (k - length (without_sign_bytes all)) all) (sym (length-high_first 16 (cast_unsigned w128 n))) ∙ end_is all

-- The shortest atom is the end of the number's 16 bytes.
pub shortest_end : (n : ℤ) (size : ℕ) (bytes : List ℕ) → size ≡ length (shortest_atom n) → bytes ≡ wide (cast_unsigned w128 n) → slice_range bytes (16 - size) 16 ≡ shortest_atom n
shortest_end n size bytes long is =
    let end : drop (16 - size) bytes ≡ shortest_atom n = ap (λ k. drop (16 - k) bytes) long ∙ ap (drop (16 - length (shortest_atom n))) is ∙ end_of_wide n in
    take_all (16 - (16 - size)) (drop (16 - size) bytes) (omega (arith, ap length end, long, length_most n)) ∙ end

-- ---- by the zeros before the bits beside the sign

bits_are : (clear m : ℕ) → clear + m ≡ 128 → 128 - clear ≡ m
bits_are clear m e = omega (arith, e)

pub length_is : (number value : ℤ) (clear : ℕ) → FitsSigned w128 number → (number ≡ pos 0 → ⊥) → ((n : ℕ) → number ≡ pos n → value ≡ pos n) → ((n : ℕ) → number ≡ negsuc n → value ≡ pos n) → clear ≡ leading_zeros w128 (cast_unsigned w128 value)
    → (128 - clear) / 8 + 1 ≡ length (shortest_atom number)
length_is (pos n) value clear fits some positive negative z =
    let bound : n < 2 ^ 127 = fits.sfits in
    let is = z ∙ ap (λ v. leading_zeros w128 (cast_unsigned w128 v)) (positive n refl) in
    let found = leading_length 128 n (omega (arith, bound)) in
    let more : 0 < n = ⊎_elim (λ (h : n < 1). absurd (some (ap pos (omega (arith, h))))) (λ (h : 1 ≤ n). h) (cases_lt n 1) in
    subst (λ k. k / 8 + 1 ≡ length (shortest_atom (pos n))) (sym (bits_are clear found.0 (ap (λ k. k + found.0) is ∙ found.1))) (length_positive n found.0 fits more found.2 found.3)
length_is (negsuc n) value clear fits some positive negative z =
    let bound : n < 2 ^ 127 = fits.sfits in
    let is = z ∙ ap (λ v. leading_zeros w128 (cast_unsigned w128 v)) (negative n refl) in
    let found = leading_length 128 n (omega (arith, bound)) in
    subst (λ k. k / 8 + 1 ≡ length (shortest_atom (negsuc n))) (sym (bits_are clear found.0 (ap (λ k. k + found.0) is ∙ found.1))) (length_negative n found.0 fits found.2 found.3)
