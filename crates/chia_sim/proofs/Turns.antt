-- A loop that reads each of a list and keeps what it read: one turn, its refusal, and the end.
use Rattle.std.proofs.Common.{◌≡◌, ◌∙◌, ℕ, ◌+◌, ◌<◌, ◌≤◌, List, [], ◌∷◌, ◌++◌, length, map, drop, get_or, Option, Some, None, ap, sym}
use Rattle.std.proofs.lemmas.List.{at_drop_more, at_drop_all}
use Rattle.session_spec.specs.Steps.{all_of}
use Rattle.session_spec.proofs.AllOf.{with_front, with_front-end, with_front-read, with_front-refused}

-- what is read of the elements from an index on, behind what was read
abbrev pub read_from : {V A B : Type 0} → (V → A) → (A → Option B) → List B → ℕ → List V → Option (List B)
read_from seen read front i xs = with_front front (all_of read (map seen (drop i xs)))

at_element : {V A B : Type 0} (seen : V → A) (read : A → Option B) (front : List B) (xs : List V) (i : ℕ) (x : V) → i < length xs → x ≡ get_or xs i x
    → read_from seen read front i xs ≡ with_front front (all_of read (seen x ∷ map seen (drop (i + 1) xs)))
at_element seen read front xs i x within here =
    at_drop_more (λ ys. with_front front (all_of read (map seen ys))) xs i x within
    ∙ ap (λ y. with_front front (all_of read (seen y ∷ map seen (drop (i + 1) xs)))) (sym here)

pub read_from-read : {V A B : Type 0} (seen : V → A) (read : A → Option B) (front : List B) (xs : List V) (i : ℕ) (x : V) (first : B) → i < length xs → x ≡ get_or xs i x
    → read (seen x) ≡ Some first → read_from seen read front i xs ≡ read_from seen read (front ++ first ∷ []) (i + 1) xs
read_from-read seen read front xs i x first within here found =
    at_element seen read front xs i x within here ∙ with_front-read read front (seen x) first (map seen (drop (i + 1) xs)) found

pub read_from-refused : {V A B : Type 0} (seen : V → A) (read : A → Option B) (front : List B) (xs : List V) (i : ℕ) (x : V) → i < length xs → x ≡ get_or xs i x
    → read (seen x) ≡ None → read_from seen read front i xs ≡ None
read_from-refused seen read front xs i x within here none =
    at_element seen read front xs i x within here ∙ with_front-refused read front (seen x) (map seen (drop (i + 1) xs)) none

pub read_from-end : {V A B : Type 0} (seen : V → A) (read : A → Option B) (front : List B) (xs : List V) (i : ℕ) → length xs ≤ i
    → read_from seen read front i xs ≡ Some front
read_from-end seen read front xs i past =
    at_drop_all (λ ys. with_front front (all_of read (map seen ys))) xs i past ∙ with_front-end read front
