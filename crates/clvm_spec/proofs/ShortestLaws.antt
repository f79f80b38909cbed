-- Atoms of numbers, and the shortest of them.
use Rattle.std.proofs.Common.{◌≡◌, ℕ, zero, suc, ◌+◌, ◌*◌, ◌-◌, ◌/◌, ◌%◌, ◌^◌, ◌<◌, ◌≤◌, ◌==◌, ◌&&◌, ◌||◌, ◌⊎◌, Bool, true, false, not, cond, nat_lt, List, [], ◌∷◌, ◌++◌, length, map, get_or, replicate, ℤ, pos, negsuc, FitsSigned, refl, sym, ◌∙◌, ap, subst, inl, inr, ⊎_elim, arith}
use Rattle.std.specs.Int.{w128, to_be_bytes, bytes_high_first, byte_at, cast_unsigned}
use Rattle.std.specs.Int.Digits.{AllBelowBase, number_from_digits_after}
use Rattle.std.proofs.lemmas.List.{length-append, length-map, length-replicate}
use Rattle.std.proofs.lemmas.Bool.{ltb-true, ltb-false, eqb-true, lt-ltb, le-ltb, or_cases, and_parts, cases_lt, cases_Bool}
use Rattle.std.proofs.lemmas.Int.Digits.{number_lt, number_push}
use Rattle.std.proofs.lemmas.Nat.{same_from_place, div_below, div-add-mod'}
use Rattle.std.proofs.Math.Nat.{pow-suc, div-div-eq-div-mul, add-mul}
use Rattle.clvm_spec.specs.Numbers.{unsigned, number, is_natural, has_sign_byte, without_sign_bytes, shortest_atom}

-- ---- digits

digit_step : (n b p u : ℕ) → (n * 256 + b) * p + u ≡ n * (p * 256) + ((0 * 256 + b) * p + u)
digit_step n b p u = omega arith

after_is : (n : ℕ) (bytes : List ℕ) → number_from_digits_after 256 n bytes ≡ n * 256 ^ length bytes + unsigned bytes
after_is n [] = omega arith
after_is n (b ∷ bytes) =
    let p = 256 ^ length bytes in
    after_is (n * 256 + b) bytes ∙ digit_step n b p (unsigned bytes)
    ∙ ap (λ q. n * q + ((0 * 256 + b) * p + unsigned bytes)) (sym (pow-suc 256 (length bytes)))
    ∙ ap (λ l. n * 256 ^ suc (length bytes) + l) (sym (after_is (0 * 256 + b) bytes))

unsigned-cons : (b : ℕ) (bytes : List ℕ) → unsigned (b ∷ bytes) ≡ b * 256 ^ length bytes + unsigned bytes
unsigned-cons b bytes = let first : 0 * 256 + b ≡ b = omega arith in after_is (0 * 256 + b) bytes ∙ ap (λ n. n * 256 ^ length bytes + unsigned bytes) first

-- Lists of bytes of one length that write one number are one.
unsigned_same : (xs ys : List ℕ) → length xs ≡ length ys → AllBelowBase 256 xs → AllBelowBase 256 ys → unsigned xs ≡ unsigned ys → xs ≡ ys
unsigned_same [] [] long hx hy e = refl
unsigned_same [] (y ∷ ys) long hx hy e = absurd (omega (arith, long))
unsigned_same (x ∷ xs) [] long hx hy e = absurd (omega (arith, long))
unsigned_same (x ∷ xs) (y ∷ ys) long hx hy e =
    let long' : length xs ≡ length ys = omega (arith, long) in
    let place : x * 256 ^ length xs + unsigned xs ≡ y * 256 ^ length xs + unsigned ys = sym (unsigned-cons x xs) ∙ e ∙ unsigned-cons y ys ∙ ap (λ n. y * 256 ^ n + unsigned ys) (sym long') in
    let below : unsigned ys < 256 ^ length xs = subst (λ n. unsigned ys < 256 ^ n) (sym long') (number_lt 256 ys hy.1) in
    let both = same_from_place x (unsigned xs) y (unsigned ys) (256 ^ length xs) (number_lt 256 xs hx.1) below place in
    ap (λ b. b ∷ xs) both.0 ∙ ap (λ bs. y ∷ bs) (unsigned_same xs ys long' hx.1 hy.1 both.1)

byte_at-next : (k n : ℕ) → byte_at (suc k) n ≡ byte_at k (n / 256)
byte_at-next zero n = refl
byte_at-next (suc k) n =
    let power : 256 * 256 ^ suc k ≡ 256 ^ suc (suc k) = omega (arith, pow-suc 256 (suc k)) in
    ap (λ d. n / d % 256) (sym power) ∙ ap (λ q. q % 256) (sym (div-div-eq-div-mul n 256 (256 ^ suc k)))

high_first-push : (k n : ℕ) → bytes_high_first (suc k) n ≡ bytes_high_first k (n / 256) ++ (n % 256) ∷ []
high_first-push zero n = refl
high_first-push (suc k) n = ap (λ b. b ∷ bytes_high_first (suc k) n) (byte_at-next k n) ∙ ap (λ bs. byte_at k (n / 256) ∷ bs) (high_first-push k n)

pub unsigned-high_first : (k n : ℕ) → n < 256 ^ k → unsigned (bytes_high_first k n) ≡ n
unsigned-high_first zero n h = omega (arith, h)
unsigned-high_first (suc k) n h =
    let less : n / 256 < 256 ^ k = div_below n 256 (256 ^ k) (omega arith) (omega (arith, h, pow-suc 256 k)) in
    ap unsigned (high_first-push k n) ∙ number_push 256 (bytes_high_first k (n / 256)) (n % 256)
    ∙ ap (λ q. q * 256 + n % 256) (unsigned-high_first k (n / 256) less) ∙ div-add-mod' n 256

pub below_high_first : (k n : ℕ) → AllBelowBase 256 (bytes_high_first k n)
below_high_first zero n = tt
below_high_first (suc zero) n = (omega arith, tt)
below_high_first (suc (suc k)) n = (omega arith, below_high_first (suc k) n)

pub length-high_first : (k n : ℕ) → length (bytes_high_first k n) ≡ k
length-high_first zero n = refl
length-high_first (suc k) n = ap suc (length-high_first k n)

-- ---- the bytes turned round

below_turned : (xs : List ℕ) → AllBelowBase 256 (map (λ b. 255 - b) xs)
below_turned [] = tt
below_turned (x ∷ xs) = (omega arith, below_turned xs)

unsigned-turned : (xs : List ℕ) → AllBelowBase 256 xs → unsigned (map (λ b. 255 - b) xs) + unsigned xs + 1 ≡ 256 ^ length xs
unsigned-turned [] h = refl
unsigned-turned (x ∷ xs) h =
    let p = 256 ^ length xs in
    let long : 256 ^ length (map (λ (b : ℕ). 255 - b) xs) ≡ p = ap (λ n. 256 ^ n) (length-map xs (λ (b : ℕ). 255 - b)) in
    let here = unsigned-cons x xs in
    let there : unsigned (map (λ b. 255 - b) (x ∷ xs)) ≡ (255 - x) * p + unsigned (map (λ b. 255 - b) xs) = unsigned-cons (255 - x) (map (λ b. 255 - b) xs) ∙ ap (λ q. (255 - x) * q + unsigned (map (λ b. 255 - b) xs)) long in
    let sum : (255 - x) + x ≡ 255 = omega (arith, h.0) in
    let product : (255 - x) * p + x * p ≡ 255 * p = sym (add-mul (255 - x) x p) ∙ ap (λ n. n * p) sum in
    omega (arith, here, there, product, unsigned-turned xs h.1, pow-suc 256 (length xs))

-- ---- the sign

pub number_low : (xs : List ℕ) → get_or xs 0 0 < 128 → number xs ≡ pos (unsigned xs)
number_low [] h = refl
number_low (x ∷ xs) h = ap (λ t. cond t (pos (unsigned (x ∷ xs))) (negsuc (unsigned (map (λ b. 255 - b) (x ∷ xs))))) (lt-ltb x 128 h)

pub number_high : (xs : List ℕ) → 1 ≤ length xs → 128 ≤ get_or xs 0 0 → number xs ≡ negsuc (unsigned (map (λ b. 255 - b) xs))
number_high [] some h = absurd (omega arith)
number_high (x ∷ xs) some h = ap (λ t. cond t (pos (unsigned (x ∷ xs))) (negsuc (unsigned (map (λ b. 255 - b) (x ∷ xs))))) (le-ltb x 128 h)

-- what a sign byte is
abbrev SignByte : ℕ → ℕ → Type 0
SignByte b c = ((b ≡ 0) × (c < 128)) ⊎ ((b ≡ 255) × (128 ≤ c))

not_true : (b : Bool) → not b ≡ true → b ≡ false
not_true true e = absurd cc
not_true false e = refl

sign_byte : (b c : ℕ) (bytes : List ℕ) → has_sign_byte (b ∷ c ∷ bytes) ≡ true → SignByte b c
sign_byte b c bytes h = ⊎_elim
    (λ (l : (b == 0 && nat_lt c 0x80) ≡ true). let p = and_parts (b == 0) (nat_lt c 0x80) l in inl (eqb-true b 0 p.0, ltb-true c 0x80 p.1))
    (λ (r : (b == 255 && not (is_natural c)) ≡ true). let p = and_parts (b == 255) (not (is_natural c)) r in inr (eqb-true b 255 p.0, ltb-false c 0x80 (not_true (is_natural c) p.1)))
    (or_cases (b == 0 && is_natural c) (b == 255 && not (is_natural c)) h)

unsigned-zero : (bytes : List ℕ) → unsigned (0 ∷ bytes) ≡ unsigned bytes
unsigned-zero bytes = omega (arith, unsigned-cons 0 bytes)

drop_sign : (b c : ℕ) (bytes : List ℕ) → SignByte b c → number (b ∷ c ∷ bytes) ≡ number (c ∷ bytes)
drop_sign b c bytes (inl h) =
    ap (λ x. number (x ∷ c ∷ bytes)) h.0 ∙ number_low (0 ∷ c ∷ bytes) (omega arith) ∙ ap pos (unsigned-zero (c ∷ bytes)) ∙ sym (number_low (c ∷ bytes) h.1)
drop_sign b c bytes (inr h) =
    ap (λ x. number (x ∷ c ∷ bytes)) h.0 ∙ number_high (255 ∷ c ∷ bytes) (omega arith) (omega arith)
    ∙ ap negsuc (unsigned-zero (map (λ b. 255 - b) (c ∷ bytes))) ∙ sym (number_high (c ∷ bytes) (omega arith) h.1)

-- A byte that says no more than the sign may go.
number-sign : (b : ℕ) (bytes : List ℕ) → has_sign_byte (b ∷ bytes) ≡ true → number (b ∷ bytes) ≡ number bytes
number-sign b [] h = ap (λ x. number (x ∷ [])) (eqb-true b 0 h)
number-sign b (c ∷ bytes) h = drop_sign b c bytes (sign_byte b c bytes h)

without_step : (b : ℕ) (bytes : List ℕ) → has_sign_byte (b ∷ bytes) ≡ true → without_sign_bytes (b ∷ bytes) ≡ without_sign_bytes bytes
unfolding without_sign_bytes shortest_atom
without_step b bytes h = ap (λ t. cond t (without_sign_bytes bytes) (b ∷ bytes)) h

without_stop : (bytes : List ℕ) → has_sign_byte bytes ≡ false → without_sign_bytes bytes ≡ bytes
unfolding without_sign_bytes shortest_atom
without_stop [] h = refl
without_stop (b ∷ bytes) h = ap (λ t. cond t (without_sign_bytes bytes) (b ∷ bytes)) h

nothing_left : without_sign_bytes [] ≡ []
unfolding without_sign_bytes shortest_atom
nothing_left = refl

pub number-without : (bytes : List ℕ) → number (without_sign_bytes bytes) ≡ number bytes
number-without [] = ap number nothing_left
number-without (b ∷ bytes) = ⊎_elim
    (λ (h : has_sign_byte (b ∷ bytes) ≡ true). ap number (without_step b bytes h) ∙ number-without bytes ∙ sym (number-sign b bytes h))
    (λ (h : has_sign_byte (b ∷ bytes) ≡ false). ap number (without_stop (b ∷ bytes) h))
    (cases_Bool (has_sign_byte (b ∷ bytes)))

pub length-without : (bytes : List ℕ) → length (without_sign_bytes bytes) ≤ length bytes
length-without [] = omega (arith, ap length nothing_left)
length-without (b ∷ bytes) = ⊎_elim
    (λ (h : has_sign_byte (b ∷ bytes) ≡ true). omega (arith, ap length (without_step b bytes h), length-without bytes))
    (λ (h : has_sign_byte (b ∷ bytes) ≡ false). omega (arith, ap length (without_stop (b ∷ bytes) h)))
    (cases_Bool (has_sign_byte (b ∷ bytes)))

-- ---- numbers of 128 bits as 16 bytes

abbrev pub wide : ℕ → List ℕ
wide n = to_be_bytes w128 n

unsigned-wide : (n : ℕ) → n < 2 ^ 128 → unsigned (wide n) ≡ n
unsigned-wide n h = unsigned-high_first 16 n h

head_low : (x : ℕ) (xs : List ℕ) → length xs ≡ 15 → unsigned (x ∷ xs) < 2 ^ 127 → x < 128
head_low x xs long small =
    let cons = unsigned-cons x xs ∙ ap (λ n. x * 256 ^ n + unsigned xs) long in
    omega (arith, cons, small)

head_high : (x : ℕ) (xs : List ℕ) → AllBelowBase 256 xs → length xs ≡ 15 → 2 ^ 127 ≤ unsigned (x ∷ xs) → 128 ≤ x
head_high x xs below long large =
    let cons = unsigned-cons x xs ∙ ap (λ n. x * 256 ^ n + unsigned xs) long in
    let bound : unsigned xs < 256 ^ 15 = subst (λ n. unsigned xs < 256 ^ n) long (number_lt 256 xs below) in
    omega (arith, cons, bound, large)

-- the number of 16 bytes, by what they write without a sign
number_positive : (xs : List ℕ) (n : ℕ) → length xs ≡ 16 → unsigned xs ≡ n → n < 2 ^ 127 → number xs ≡ pos n
number_positive [] n long e small = absurd (omega (arith, long))
number_positive (x ∷ xs) n long e small = number_low (x ∷ xs) (head_low x xs (omega (arith, long)) (omega (arith, e, small))) ∙ ap pos e

number_negative : (xs : List ℕ) (n : ℕ) → AllBelowBase 256 xs → length xs ≡ 16 → unsigned xs ≡ 2 ^ 128 - suc n → n < 2 ^ 127 → number xs ≡ negsuc n
number_negative [] n below long e small = absurd (omega (arith, long))
number_negative (x ∷ xs) n below long e small =
    let high = head_high x xs below.1 (omega (arith, long)) (omega (arith, e, small)) in
    let whole = unsigned-turned (x ∷ xs) below ∙ ap (λ n. 256 ^ n) long in
    number_high (x ∷ xs) (omega arith) high ∙ ap negsuc (omega (arith, whole, e, small))

number-wide : (n : ℤ) → FitsSigned w128 n → number (wide (cast_unsigned w128 n)) ≡ n
number-wide (pos n) h =
    let small : n < 2 ^ 127 = h.sfits in
    number_positive (wide n) n (length-high_first 16 n) (unsigned-wide n (omega (arith, small))) small
number-wide (negsuc n) h =
    let small : n < 2 ^ 127 = h.sfits in
    let bits = 2 ^ 128 - suc n in
    number_negative (wide bits) n (below_high_first 16 bits) (length-high_first 16 bits) (unsigned-wide bits (omega arith)) small

-- The shortest atom of a number has that number.
pub number-shortest : (n : ℤ) → FitsSigned w128 n → number (shortest_atom n) ≡ n
unfolding shortest_atom
number-shortest n h = number-without (wide (cast_unsigned w128 n)) ∙ number-wide n h

-- ---- an atom of at most 16 bytes, filled up with its sign

abbrev fill : ℕ → ℕ → List ℕ → List ℕ
fill sign n bytes = replicate n sign ++ bytes

-- the byte that says the sign of what follows
abbrev SignOf : ℕ → List ℕ → Type 0
SignOf sign bytes = has_sign_byte (sign ∷ bytes) ≡ true

zero_sign : (c : ℕ) (bytes : List ℕ) → c < 128 → SignOf 0 (c ∷ bytes)
zero_sign c bytes h = ap (λ t. (true && t) || (0 == 255 && not (is_natural c))) (lt-ltb c 128 h)

full_sign : (c : ℕ) (bytes : List ℕ) → 128 ≤ c → SignOf 255 (c ∷ bytes)
full_sign c bytes h = ap (λ t. (255 == 0 && is_natural c) || (true && not t)) (le-ltb c 128 h)

filled_zero : (n : ℕ) (bytes : List ℕ) → SignOf 0 bytes → SignOf 0 (fill 0 n bytes)
filled_zero zero bytes h = h
filled_zero (suc n) bytes h = zero_sign 0 (fill 0 n bytes) (omega arith)

filled_full : (n : ℕ) (bytes : List ℕ) → SignOf 255 bytes → SignOf 255 (fill 255 n bytes)
filled_full zero bytes h = h
filled_full (suc n) bytes h = full_sign 255 (fill 255 n bytes) (omega arith)

without-fill : (sign n : ℕ) (bytes : List ℕ) → ((k : ℕ) → SignOf sign (fill sign k bytes)) → without_sign_bytes (fill sign n bytes) ≡ without_sign_bytes bytes
without-fill sign zero bytes h = refl
without-fill sign (suc n) bytes h = without_step sign (fill sign n bytes) (h n) ∙ without-fill sign n bytes h

number-fill : (sign n : ℕ) (bytes : List ℕ) → ((k : ℕ) → SignOf sign (fill sign k bytes)) → number (fill sign n bytes) ≡ number bytes
number-fill sign zero bytes h = refl
number-fill sign (suc n) bytes h = number-sign sign (fill sign n bytes) (h n) ∙ number-fill sign n bytes h

below-fill : (sign n : ℕ) (bytes : List ℕ) → sign < 256 → AllBelowBase 256 bytes → AllBelowBase 256 (fill sign n bytes)
below-fill sign zero bytes s h = h
below-fill sign (suc n) bytes s h = (s, below-fill sign n bytes s h)

length-fill : (sign n : ℕ) (bytes : List ℕ) → length (fill sign n bytes) ≡ n + length bytes
length-fill sign n bytes = length-append (replicate n sign) bytes ∙ ap (λ k. k + length bytes) (length-replicate n sign)

-- 16 bytes are those of their number
bits_of_number : (xs : List ℕ) → AllBelowBase 256 xs → length xs ≡ 16 → cast_unsigned w128 (number xs) ≡ unsigned xs
bits_of_number xs below long = ⊎_elim
    (λ (h : get_or xs 0 0 < 128). ap (cast_unsigned w128) (number_low xs h))
    (λ (h : 128 ≤ get_or xs 0 0).
    let whole = unsigned-turned xs below ∙ ap (λ n. 256 ^ n) long in
    ap (cast_unsigned w128) (number_high xs (omega (arith, long)) h) ∙ omega (arith, whole))
    (cases_lt (get_or xs 0 0) 128)

wide-number : (xs : List ℕ) → AllBelowBase 256 xs → length xs ≡ 16 → wide (cast_unsigned w128 (number xs)) ≡ xs
wide-number xs below long =
    let small : unsigned xs < 2 ^ 128 = subst (λ n. unsigned xs < 256 ^ n) long (number_lt 256 xs below) in
    ap wide (bits_of_number xs below long)
    ∙ unsigned_same (wide (unsigned xs)) xs (length-high_first 16 (unsigned xs) ∙ sym long) (below_high_first 16 (unsigned xs)) below (unsigned-wide (unsigned xs) small)

shortest_by_sign : (sign : ℕ) (bytes : List ℕ) → sign < 256 → AllBelowBase 256 bytes → length bytes ≤ 16 → ((k : ℕ) → SignOf sign (fill sign k bytes)) → shortest_atom (number bytes) ≡ without_sign_bytes bytes
unfolding shortest_atom
shortest_by_sign sign bytes s below short h =
    let n = 16 - length bytes in
    let long : length (fill sign n bytes) ≡ 16 = omega (arith, length-fill sign n bytes) in
    ap (λ z. without_sign_bytes (wide (cast_unsigned w128 z))) (sym (number-fill sign n bytes h))
    ∙ ap without_sign_bytes (wide-number (fill sign n bytes) (below-fill sign n bytes s below) long) ∙ without-fill sign n bytes h

-- The shortest atom of an atom's number is that atom without what says no more than the sign.
pub shortest-number : (bytes : List ℕ) → AllBelowBase 256 bytes → length bytes ≤ 16 → shortest_atom (number bytes) ≡ without_sign_bytes bytes
unfolding shortest_atom
shortest-number [] below short = shortest_by_sign 0 [] (omega arith) below short (λ k. filled_zero k [] refl)
shortest-number (b ∷ bytes) below short = ⊎_elim
    (λ (h : b < 128). shortest_by_sign 0 (b ∷ bytes) (omega arith) below short (λ k. filled_zero k (b ∷ bytes) (zero_sign b bytes h)))
    (λ (h : 128 ≤ b). shortest_by_sign 255 (b ∷ bytes) (omega arith) below short (λ k. filled_full k (b ∷ bytes) (full_sign b bytes h)))
    (cases_lt b 128)

pub shortest_is_itself : (bytes : List ℕ) → AllBelowBase 256 bytes → length bytes ≤ 16 → has_sign_byte bytes ≡ false → shortest_atom (number bytes) ≡ bytes
unfolding shortest_atom
shortest_is_itself bytes below short h = shortest-number bytes below short ∙ without_stop bytes h

-- No atom of the same number is shorter.
pub shortest_is_least : (bytes : List ℕ) → AllBelowBase 256 bytes → length (shortest_atom (number bytes)) ≤ length bytes
unfolding shortest_atom
shortest_is_least bytes below = ⊎_elim
    (λ (h : length bytes < 17). omega (arith, ap length (shortest-number bytes below (omega arith)), length-without bytes))
    (λ (h : 17 ≤ length bytes).
    let all = wide (cast_unsigned w128 (number bytes)) in
    omega (arith, length-without all, length-high_first 16 (cast_unsigned w128 (number bytes))))
    (cases_lt (length bytes) 17)
