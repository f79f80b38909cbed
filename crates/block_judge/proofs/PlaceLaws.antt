-- The first place of a list that a test finds, one element after another.
use Rattle.std.proofs.Common.{◌≡◌, ℕ, suc, ◌+◌, ◌<◌, Bool, true, false, ◌&&◌, not, cond, nat_lt, if◌then◌else◌, Option, Some, None, List, [], ◌∷◌, length, drop, get_or, refl, ap, sym, ◌∙◌, add-one, drop-cons, arith}
use Rattle.std.specs.Prelude.{position}
use Rattle.std.specs.List.{list_all, position_or_len}
use Rattle.std.proofs.lemmas.Bool.Decides.{nat_tests}

abbrev pub place_from : {A : Type 0} → (A → Bool) → ℕ → List A → Option ℕ
place_from test place [] = None
place_from test place (x ∷ xs) = if test x then Some place else place_from test (suc place) xs

one-place : (b : Bool) (place n count : ℕ) (rest : Option ℕ) → rest ≡ cond (nat_lt n count) (Some (suc place + n)) None
    → (if b then Some place else rest) ≡ cond (nat_lt (cond (not b) (1 + n) 0) (suc count)) (Some (place + cond (not b) (1 + n) 0)) None
one-place true place n count rest e =
    let first : nat_lt 0 (suc count) ≡ true = grind (arith, nat_tests) in
    let here : place + 0 ≡ place = omega arith in
    λ i. cond (sym first i) (Some (sym here i)) None
one-place false place n count rest e =
    let next : nat_lt (1 + n) (suc count) ≡ nat_lt n count = grind (arith, nat_tests) in
    let here : suc place + n ≡ place + (1 + n) = omega arith in
    e ∙ (λ i. cond (sym next i) (Some (here i)) None)

from-is : {A : Type 0} (test : A → Bool) (place : ℕ) (xs : List A)
    → place_from test place xs ≡ cond (nat_lt (position_or_len test xs) (length xs)) (Some (place + position_or_len test xs)) None
from-is test place [] = refl
from-is test place (x ∷ xs) =
    one-place (test x) place (position_or_len test xs) (length xs) (place_from test (suc place) xs) (from-is test (suc place) xs)

zero-more : (n : ℕ) → 0 + n ≡ n
zero-more n = omega arith

pub place_from-is : {A : Type 0} (test : A → Bool) (xs : List A) → place_from test 0 xs ≡ position test xs
place_from-is test xs =
    from-is test 0 xs ∙ (λ i. cond (nat_lt (position_or_len test xs) (length xs)) (Some (zero-more (position_or_len test xs) i)) None)

module _ {A : Type 0} (test : A → Bool) (xs : List A) (place : ℕ) (d : A) (within : place < length xs) where
  -- An element that the test doesn't find is passed over.
  pub place-next : test (get_or xs place d) ≡ false → place_from test place (drop place xs) ≡ place_from test (place + 1) (drop (place + 1) xs)
  place-next fails =
      rw (add-one, drop-cons xs place d)
      (ap (λ b. if b then Some place else place_from test (suc place) (drop (suc place) xs)) fails)

  -- One that it finds is the answer.
  pub place-here : test (get_or xs place d) ≡ true → place_from test place (drop place xs) ≡ Some place
  place-here holds =
      rw (drop-cons xs place d)
      (ap (λ b. if b then Some place else place_from test (suc place) (drop (suc place) xs)) holds)

  -- Where all is asked, an element that the test finds is passed over.
  pub all-next : test (get_or xs place d) ≡ true → list_all test (drop place xs) ≡ list_all test (drop (place + 1) xs)
  all-next holds = rw (add-one, drop-cons xs place d) (ap (λ b. b && list_all test (drop (suc place) xs)) holds)

  pub all-fails : test (get_or xs place d) ≡ false → list_all test (drop place xs) ≡ false
  all-fails fails = rw (drop-cons xs place d) (ap (λ b. b && list_all test (drop (suc place) xs)) fails)
