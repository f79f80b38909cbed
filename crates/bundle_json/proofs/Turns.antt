-- A loop that reads each of a list and keeps what it read: one turn, its refusal, and the end.
use Rattle.std.proofs.Common.{◌≡◌, ◌∙◌, ℕ, ◌+◌, ◌<◌, ◌≤◌, List, [], ◌∷◌, ◌++◌, length, map, drop, get_or, Option, Some, None, Result, Ok, Err, refl, ap, sym, append_assoc}
use Rattle.std.proofs.lemmas.List.{at_drop_more, at_drop_all, append-nil}
use Rattle.session_spec.specs.Steps.{all_of}
use Rattle.session_spec.specs.Results as results
use Rattle.session_spec.specs.Results.{each_of}
use Rattle.session_spec.proofs.AllOf.{with_front, with_front-end, with_front-read, with_front-refused}

-- ---- where something is read, or nothing

-- what is read of the elements from an index on, behind what was read
abbrev pub read_from : {V A B : Type 0} → (V → A) → (A → Option B) → List B → ℕ → List V → Option (List B)
read_from seen read front i xs = with_front front (all_of read (map seen (drop i xs)))

at_element : {V A B : Type 0} (seen : V → A) (read : A → Option B) (front : List B) (xs : List V) (i : ℕ) (x : V) → i < length xs → x ≡ get_or xs i x
    → read_from seen read front i xs ≡ with_front front (all_of read (seen x ∷ map seen (drop (i + 1) xs)))
at_element seen read front xs i x within here =
    at_drop_more (λ ys. with_front front (all_of read (map seen ys))) xs i x within
    ∙ ap (λ y. with_front front (all_of read (seen y ∷ map seen (drop (i + 1) xs)))) (sym here)

pub read_from-read : {V A B : Type 0} (seen : V → A) (read : A → Option B) (front : List B) (xs : List V) (i : ℕ) (x : V) (first : B) → i < length xs → x ≡ get_or xs i x
    → read (seen x) ≡ Some first → read_from seen read front i xs ≡ read_from seen read (front ++ first ∷ []) (i + 1) xs
read_from-read seen read front xs i x first within here found =
    at_element seen read front xs i x within here ∙ with_front-read read front (seen x) first (map seen (drop (i + 1) xs)) found

pub read_from-refused : {V A B : Type 0} (seen : V → A) (read : A → Option B) (front : List B) (xs : List V) (i : ℕ) (x : V) → i < length xs → x ≡ get_or xs i x
    → read (seen x) ≡ None → read_from seen read front i xs ≡ None
read_from-refused seen read front xs i x within here none =
    at_element seen read front xs i x within here ∙ with_front-refused read front (seen x) (map seen (drop (i + 1) xs)) none

pub read_from-end : {V A B : Type 0} (seen : V → A) (read : A → Option B) (front : List B) (xs : List V) (i : ℕ) → length xs ≤ i
    → read_from seen read front i xs ≡ Some front
read_from-end seen read front xs i past =
    at_drop_all (λ ys. with_front front (all_of read (map seen ys))) xs i past ∙ with_front-end read front

-- ---- where something is read, or wrong

abbrev pub behind : {A E : Type 0} → List A → Result (List A) E → Result (List A) E
behind front read = results.◌>>=◌ read (λ more. Ok (front ++ more))

pub behind-nothing : {A E : Type 0} (read : Result (List A) E) → behind [] read ≡ read
behind-nothing (Ok more) = refl
behind-nothing (Err wrong) = refl

abbrev pub one_more : {A E : Type 0} → Result A E → Result (List A) E → Result (List A) E
one_more first others = results.◌>>=◌ first (λ f. results.◌>>=◌ others (λ os. Ok (f ∷ os)))

behind-push : {A E : Type 0} (front : List A) (first : A) (read : Result (List A) E) → behind front (one_more (Ok first) read) ≡ behind (front ++ first ∷ []) read
behind-push front first (Ok others) = ap Ok (sym (append_assoc front (first ∷ []) others))
behind-push front first (Err wrong) = refl

abbrev pub tried_from : {V A B E : Type 0} → (V → A) → (A → Result B E) → List B → ℕ → List V → Result (List B) E
tried_from seen read front i xs = behind front (each_of read (map seen (drop i xs)))

tried_at : {V A B E : Type 0} (seen : V → A) (read : A → Result B E) (front : List B) (xs : List V) (i : ℕ) (x : V) → i < length xs → x ≡ get_or xs i x
    → tried_from seen read front i xs ≡ behind front (one_more (read (seen x)) (each_of read (map seen (drop (i + 1) xs))))
tried_at seen read front xs i x within here =
    at_drop_more (λ ys. behind front (each_of read (map seen ys))) xs i x within
    ∙ ap (λ y. behind front (one_more (read (seen y)) (each_of read (map seen (drop (i + 1) xs))))) (sym here)

pub tried_from-read : {V A B E : Type 0} (seen : V → A) (read : A → Result B E) (front : List B) (xs : List V) (i : ℕ) (x : V) (first : B) → i < length xs → x ≡ get_or xs i x
    → read (seen x) ≡ Ok first → tried_from seen read front i xs ≡ tried_from seen read (front ++ first ∷ []) (i + 1) xs
tried_from-read seen read front xs i x first within here found =
    tried_at seen read front xs i x within here
    ∙ ap (λ r. behind front (one_more r (each_of read (map seen (drop (i + 1) xs))))) found
    ∙ behind-push front first (each_of read (map seen (drop (i + 1) xs)))

pub tried_from-refused : {V A B E : Type 0} (seen : V → A) (read : A → Result B E) (front : List B) (xs : List V) (i : ℕ) (x : V) (wrong : E) → i < length xs → x ≡ get_or xs i x
    → read (seen x) ≡ Err wrong → tried_from seen read front i xs ≡ Err wrong
tried_from-refused seen read front xs i x wrong within here refused =
    tried_at seen read front xs i x within here
    ∙ ap (λ r. behind front (one_more r (each_of read (map seen (drop (i + 1) xs))))) refused

pub tried_from-end : {V A B E : Type 0} (seen : V → A) (read : A → Result B E) (front : List B) (xs : List V) (i : ℕ) → length xs ≤ i
    → tried_from seen read front i xs ≡ Ok front
tried_from-end seen read front xs i past =
    at_drop_all (λ ys. behind front (each_of read (map seen ys))) xs i past ∙ ap Ok (append-nil front)

pub tried_from-begin : {V A B E : Type 0} (seen : V → A) (read : A → Result B E) (xs : List V) → tried_from seen read [] 0 xs ≡ each_of read (map seen xs)
tried_from-begin seen read xs = behind-nothing (each_of read (map seen xs))
