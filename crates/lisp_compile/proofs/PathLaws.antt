-- The numbers and the atoms of paths, eight steps by eight.
use Rattle.std.proofs.Common.{◌≡◌, ℕ, zero, suc, ◌+◌, ◌*◌, ◌/◌, ◌%◌, ◌^◌, ◌<◌, ◌≤◌, List, [], ◌∷◌, ◌++◌, length, drop, take, reverse, sym, ap, ap₂, ◌∙◌, subst, arith}
use Rattle.std.proofs.lemmas.List.{map-append, length-map, length-drop, reverse-append, take-append-drop, length-take-le}
use Rattle.std.proofs.lemmas.Int.Digits.{digits_of_step}
use Rattle.std.specs.Int.Digits.{digits_of}
use Rattle.lisp_spec.specs.Parameters as parameters
use Rattle.lisp_spec.specs.Parameters.{ToFirst, ToRest}
use Rattle.lisp_code.specs.Paths.{path_number, path_atom}
use Rattle.lisp_compile.specs.declared.parameters.Side.{Side}
use Rattle.lisp_compile.specs.Sides.{side_of, path_in}

pub number_above : (path : List parameters.Side) → 1 ≤ path_number path
number_above [] = omega arith
number_above (ToFirst ∷ path) = let h = number_above path in omega arith
number_above (ToRest ∷ path) = let h = number_above path in omega arith

pub number_short : (path : List parameters.Side) → path_number path < 2 ^ suc (length path)
number_short [] = omega arith
number_short (ToFirst ∷ path) = let h = number_short path in let p : 2 ^ suc (suc (length path)) ≡ 2 * 2 ^ suc (length path) = omega arith in omega arith
number_short (ToRest ∷ path) = let h = number_short path in let p : 2 ^ suc (suc (length path)) ≡ 2 * 2 ^ suc (length path) = omega arith in omega arith

-- the first steps of a path are the low digits of its number
pub number-append : (front back : List parameters.Side) → path_number (front ++ back) + 2 ^ length front ≡ 2 ^ length front * path_number back + path_number front
number-append [] back = omega arith
number-append (ToFirst ∷ front) back =
    let h = number-append front back in
    let p : 2 ^ suc (length front) ≡ 2 * 2 ^ length front = omega arith in
    let q : 2 ^ suc (length front) * path_number back ≡ 2 * (2 ^ length front * path_number back) = rw p (omega arith) in
    omega arith
number-append (ToRest ∷ front) back =
    let h = number-append front back in
    let p : 2 ^ suc (length front) ≡ 2 * 2 ^ length front = omega arith in
    let q : 2 ^ suc (length front) * path_number back ≡ 2 * (2 ^ length front * path_number back) = rw p (omega arith) in
    omega arith

pub number_above_bits : (path : List parameters.Side) → 2 ^ length path ≤ path_number path
number_above_bits [] = omega arith
number_above_bits (ToFirst ∷ path) = let h = number_above_bits path in let p : 2 ^ suc (length path) ≡ 2 * 2 ^ length path = omega arith in omega arith
number_above_bits (ToRest ∷ path) = let h = number_above_bits path in let p : 2 ^ suc (length path) ≡ 2 * 2 ^ length path = omega arith in omega arith

-- ---- atoms

byte_step : (n whole low : ℕ) → 1 ≤ n → 256 ≤ low → low < 512 → whole + 256 ≡ 256 * n + low → digits_of 256 whole ≡ digits_of 256 n ++ low % 256 ∷ []
byte_step n whole low some above below e =
    let high : whole / 256 ≡ n = omega arith in
    let last : whole % 256 ≡ low % 256 = omega arith in
    digits_of_step 256 whole (omega arith) (omega arith) ∙ ap₂ (λ x y. digits_of 256 x ++ y ∷ []) high last

-- eight steps are one byte
pub atom_step : (sides : List Side) → 8 ≤ length sides → path_atom (path_in sides) ≡ path_atom (path_in (drop 8 sides)) ++ path_number (path_in (take 8 sides)) % 256 ∷ []
atom_step sides h =
    let front = path_in (take 8 sides) in
    let back = path_in (drop 8 sides) in
    let long : length front ≡ 8 = length-map (take 8 sides) side_of ∙ length-take-le 8 sides h in
    let whole : path_in sides ≡ front ++ back = ap path_in (sym (take-append-drop 8 sides)) ∙ map-append side_of (take 8 sides) (drop 8 sides) in
    let e = number-append front back in
    let e' : path_number (front ++ back) + 256 ≡ 256 * path_number back + path_number front = subst (λ k. path_number (front ++ back) + 2 ^ k ≡ 2 ^ k * path_number back + path_number front) long e in
    let above : 256 ≤ path_number front = subst (λ k. 2 ^ k ≤ path_number front) long (number_above_bits front) in
    let below : path_number front < 512 = subst (λ k. path_number front < 2 ^ suc k) long (number_short front) in
    ap path_atom whole ∙ byte_step (path_number back) (path_number (front ++ back)) (path_number front) (number_above back) above below e'

pub atom_short : (n : ℕ) → 1 ≤ n → n < 256 → digits_of 256 n ≡ n ∷ []
atom_short n some below =
    let high : n / 256 ≡ 0 = omega arith in
    let last : n % 256 ≡ n = omega arith in
    digits_of_step 256 n (omega arith) some ∙ ap₂ (λ x y. digits_of 256 x ++ y ∷ []) high last

pub reverse-push : (xs : List ℕ) (x : ℕ) → reverse (xs ++ x ∷ []) ≡ x ∷ reverse xs
reverse-push xs x = reverse-append xs (x ∷ [])

two_rises : (i j : ℕ) → i ≤ j → 2 ^ i ≤ 2 ^ j
two_rises i zero h = let e : i ≡ 0 = omega arith in subst (λ i. 2 ^ i ≤ 2 ^ 0) (sym e) (omega arith)
two_rises zero (suc j) h = let k = two_rises zero j (omega arith) in let p : 2 ^ suc j ≡ 2 * 2 ^ j = omega arith in omega arith
two_rises (suc i) (suc j) h =
    let k = two_rises i j (omega arith) in let p : 2 ^ suc j ≡ 2 * 2 ^ j = omega arith in let q : 2 ^ suc i ≡ 2 * 2 ^ i = omega arith in omega arith

pub number_within : (sides : List Side) (bound : ℕ) → length sides ≤ bound → path_number (path_in sides) < 2 ^ suc bound
number_within sides bound h =
    let below = subst (λ k. path_number (path_in sides) < 2 ^ suc k) (length-map sides side_of) (number_short (path_in sides)) in
    let rises = two_rises (suc (length sides)) (suc bound) (omega arith) in
    omega arith

-- what a loop has come to, with a step still to go
pub below_seven : (sides : List Side) (i : ℕ) → length sides ≤ 8 → 1 ≤ i → path_number (path_in (drop i sides)) < 256
below_seven sides i h some = number_within (drop i sides) 7 (omega (arith, length-drop i sides))
