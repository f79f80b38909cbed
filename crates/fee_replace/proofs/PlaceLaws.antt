-- The places where a test holds.
use Rattle.std.proofs.Common.{◌≡◌, ℕ, zero, suc, ◌+◌, ◌<◌, ◌≤◌, Bool, true, false, not, cond, ◌&&◌, if◌then◌else◌, Option, Some, None, ltb, List, [], ◌∷◌, ◌++◌, length, drop, get_or, refl, sym, ap, subst, ◌∙◌, add-zero, add-one, zero-add, append-nil, arith}
use Rattle.std.specs.Prelude.{filter, slice_get, position, option_map}
use Rattle.std.specs.List.{sum_by, prefix_len, find}
use Rattle.std.proofs.lemmas.List.{get_or-drop, drop-drop}
use Rattle.std.proofs.lemmas.List.Sums.{sum_by-cons}
use Rattle.std.proofs.lemmas.Bool.{ltb-true, ltb-false, le-ltb, lt-ltb, cond_both, cond-true, cond-false}
use Rattle.pool_spec.specs.Replacement.{places_where}

count_step : (b : Bool) (k : ℕ) (places : List ℕ) (n : ℕ) → length places ≤ n → length (if b then k ∷ places else places) ≤ suc n
count_step true k places n h = omega arith
count_step false k places n h = omega arith

pub count : {A : Type 0} (test : A → Bool) (k : ℕ) (xs : List A) → length (places_where test k xs) ≤ length xs
count test k [] = omega arith
count test k (x ∷ xs) = count_step (test x) k (places_where test (suc k) xs) (length xs) (count test (suc k) xs)

more_step : (b : Bool) (k : ℕ) (new places more : List ℕ) → new ≡ places ++ more → (if b then k ∷ new else new) ≡ (if b then k ∷ places else places) ++ more
more_step true k new places more e = ap (λ l. k ∷ l) e
more_step false k new places more e = e

abbrev pub place_if : Bool → ℕ → List ℕ
place_if b n = if b then n ∷ [] else []

pub one-more : {A : Type 0} (test : A → Bool) (k : ℕ) (xs : List A) (x : A) → places_where test k (xs ++ x ∷ []) ≡ places_where test k xs ++ place_if (test x) (k + length xs)
one-more test k [] x = ap (λ n. place_if (test x) n) (sym (add-zero k))
one-more test k (y ∷ ys) x =
    let n : suc k + length ys ≡ k + suc (length ys) = omega arith in
    more_step (test y) k (places_where test (suc k) (ys ++ x ∷ [])) (places_where test (suc k) ys) (place_if (test x) (k + suc (length ys)))
    (one-more test (suc k) ys x ∙ ap (λ m. places_where test (suc k) ys ++ place_if (test x) m) n)

-- what is listed where one more is looked at that has the test's answer
pub listed-more : (b : Bool) (k : ℕ) (old listed next new : List ℕ) → b ≡ true → new ≡ old ++ k ∷ [] → old ≡ listed → next ≡ listed ++ place_if b k → new ≡ next
listed-more true k old listed next new e is same more = is ∙ ap (λ l. l ++ k ∷ []) same ∙ sym more
listed-more false k old listed next new e is same more = cc

pub listed-same : (b : Bool) (k : ℕ) (old listed next new : List ℕ) → b ≡ false → new ≡ old → old ≡ listed → next ≡ listed ++ place_if b k → new ≡ next
listed-same true k old listed next new e is same more = cc
listed-same false k old listed next new e is same more = is ∙ same ∙ sym (more ∙ append-nil listed)

-- ---- what stands at these places

within_step : (b : Bool) (k m : ℕ) (places : List ℕ) → k < m → ((j : ℕ) → j < length places → get_or places j 0 < m)
    → (j : ℕ) → j < length (if b then k ∷ places else places) → get_or (if b then k ∷ places else places) j 0 < m
within_step true k m places here others zero h = here
within_step true k m places here others (suc j) h = others j (omega arith)
within_step false k m places here others j h = others j h

pub within : {A : Type 0} (test : A → Bool) (k : ℕ) (xs : List A) (j : ℕ) → j < length (places_where test k xs) → get_or (places_where test k xs) j 0 < k + length xs
within test k [] j h = absurd (omega arith)
within test k (x ∷ xs) j h =
    let n : suc k + length xs ≡ k + suc (length xs) = omega arith in
    within_step (test x) k (k + suc (length xs)) (places_where test (suc k) xs) (omega arith)
    (λ i l. subst (λ m. get_or (places_where test (suc k) xs) i 0 < m) n (within test (suc k) xs i l)) j h

stands-at : {A : Type 0} (all : List A) (k : ℕ) (x d : A) (xs : List A) → drop k all ≡ x ∷ xs → get_or all k d ≡ x
stands-at all k x d xs e = ap (λ n. get_or all n d) (sym (add-zero k)) ∙ sym (get_or-drop k all 0 d) ∙ ap (λ l. get_or l 0 d) e

follows : {A : Type 0} (all : List A) (k : ℕ) (x : A) (xs : List A) → drop k all ≡ x ∷ xs → drop (suc k) all ≡ xs
follows all k x xs e = ap (λ n. drop n all) (sym (add-one k)) ∙ sym (drop-drop 1 k all) ∙ ap (drop 1) e

sum_step : {A : Type 0} (b : Bool) (f : A → ℕ) (g : ℕ → ℕ) (k : ℕ) (x : A) (xs : List A) (places : List ℕ) → g k ≡ f x
    → sum_by f xs ≡ sum_by g places → sum_by f (if b then x ∷ xs else xs) ≡ sum_by g (if b then k ∷ places else places)
sum_step true f g k x xs places here others = sum_by-cons f x xs ∙ (λ i. sym here i + others i) ∙ sym (sum_by-cons g k places)
sum_step false f g k x xs places here others = others

sum-at : {A : Type 0} (test : A → Bool) (f : A → ℕ) (d : A) (all : List A) (k : ℕ) (xs : List A) → drop k all ≡ xs
    → sum_by f (filter test xs) ≡ sum_by (λ p. f (get_or all p d)) (places_where test k xs)
sum-at test f d all k [] e = refl
sum-at test f d all k (x ∷ xs) e =
    sum_step (test x) f (λ p. f (get_or all p d)) k x (filter test xs) (places_where test (suc k) xs) (ap f (stands-at all k x d xs e))
    (sum-at test f d all (suc k) xs (follows all k x xs e))

-- the sum over what passes, by its places
pub sum-by_places : {A : Type 0} (test : A → Bool) (f : A → ℕ) (d : A) (xs : List A) → sum_by f (filter test xs) ≡ sum_by (λ p. f (get_or xs p d)) (places_where test 0 xs)
sum-by_places test f d xs = sum-at test f d xs 0 xs refl

-- ---- the first of these places

-- the first place that passes, counted from k, by whether the first element passes
place : ℕ → Bool → ℕ → ℕ → Option ℕ
place k passes n len = option_map (λ m. k + m) (cond (ltb (cond (not passes) (1 + n) 0) (suc len)) (Some (cond (not passes) (1 + n) 0)) None)

place-is : (k : ℕ) (passes : Bool) (n len : ℕ) → place k passes n len ≡ cond passes (Some k) (option_map (λ m. suc k + m) (cond (ltb n len) (Some n) None))
unfolding place
place-is k true n len =
    ap (option_map (λ m. k + m)) (cond-true (ltb 0 (suc len)) (Some 0) None (lt-ltb 0 (suc len) (omega arith))) ∙ ap Some (add-zero k)
place-is k false n len =
    let one : k + (1 + n) ≡ suc k + n = omega arith in
    cond_both (ltb n len) (Some n) None
    (λ o. option_map (λ m. k + m) (cond (ltb (1 + n) (suc len)) (Some (1 + n)) None) ≡ option_map (λ m. suc k + m) o)
    (λ e. let h = ltb-true n len e in
    ap (option_map (λ m. k + m)) (cond-true (ltb (1 + n) (suc len)) (Some (1 + n)) None (lt-ltb (1 + n) (suc len) (omega arith))) ∙ ap Some one)
    (λ e. let h = ltb-false n len e in
    ap (option_map (λ m. k + m)) (cond-false (ltb (1 + n) (suc len)) (Some (1 + n)) None (le-ltb (1 + n) (suc len) (omega arith))))

position-step : {A : Type 0} (test : A → Bool) (k : ℕ) (x : A) (xs : List A)
    → option_map (λ m. k + m) (position test (x ∷ xs)) ≡ cond (test x) (Some k) (option_map (λ m. suc k + m) (position test xs))
unfolding place
position-step test k x xs = place-is k (test x) (prefix_len (λ y. not (test y)) xs) (length xs)

find_step : (b c : Bool) (q : ℕ → Bool) (k : ℕ) (places : List ℕ) (rest : Option ℕ) → q k ≡ c → find q places ≡ rest
    → find q (if b then k ∷ places else places) ≡ cond (b && c) (Some k) rest
find_step true c q k places rest here others = (λ i. cond (here i) (Some k) (others i))
find_step false c q k places rest here others = others

find-at : {A : Type 0} (test more : A → Bool) (d : A) (all : List A) (k : ℕ) (xs : List A) → drop k all ≡ xs
    → find (λ p. more (get_or all p d)) (places_where test k xs) ≡ option_map (λ m. k + m) (position (λ x. test x && more x) xs)
find-at test more d all k [] e = refl
find-at test more d all k (x ∷ xs) e =
    find_step (test x) (more x) (λ p. more (get_or all p d)) k (places_where test (suc k) xs) (option_map (λ m. suc k + m) (position (λ y. test y && more y) xs))
    (ap more (stands-at all k x d xs e)) (find-at test more d all (suc k) xs (follows all k x xs e))
    ∙ sym (position-step (λ y. test y && more y) k x xs)

from-zero : (o : Option ℕ) → option_map (λ m. 0 + m) o ≡ o
from-zero None = refl
from-zero (Some n) = ap Some (zero-add n)

-- the first place that passes both tests, looked for among those that pass the first one
pub find-by_places : {A : Type 0} (test more : A → Bool) (d : A) (xs : List A)
    → find (λ p. more (get_or xs p d)) (places_where test 0 xs) ≡ position (λ x. test x && more x) xs
find-by_places test more d xs = find-at test more d xs 0 xs refl ∙ from-zero (position (λ x. test x && more x) xs)

first_step : (b : Bool) (k : ℕ) (places : List ℕ) (rest : Option ℕ) → slice_get places 0 ≡ rest
    → slice_get (if b then k ∷ places else places) 0 ≡ cond b (Some k) rest
first_step true k places rest others = refl
first_step false k places rest others = others

first-at : {A : Type 0} (test : A → Bool) (k : ℕ) (xs : List A) → slice_get (places_where test k xs) 0 ≡ option_map (λ m. k + m) (position test xs)
first-at test k [] = refl
first-at test k (x ∷ xs) =
    first_step (test x) k (places_where test (suc k) xs) (option_map (λ m. suc k + m) (position test xs)) (first-at test (suc k) xs)
    ∙ sym (position-step test k x xs)

pub first-place : {A : Type 0} (test : A → Bool) (xs : List A) → slice_get (places_where test 0 xs) 0 ≡ position test xs
first-place test xs = first-at test 0 xs ∙ from-zero (position test xs)
