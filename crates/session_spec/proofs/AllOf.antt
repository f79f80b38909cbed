-- Reading each of a list, one after another.
use Rattle.std.proofs.Common.{◌≡◌, ◌∙◌, List, [], ◌∷◌, ◌++◌, Option, Some, None, refl, ap, sym, append_assoc}
use Rattle.std.proofs.lemmas.List.{append-nil}
use Rattle.session_spec.specs.Steps.{◌>>=◌, all_of}

-- what was read already, before what is read of the others
abbrev pub with_front : {A : Type 0} → List A → Option (List A) → Option (List A)
with_front front read = read >>= λ more. Some (front ++ more)

pub with_front-none_read : {A : Type 0} (read : Option (List A)) → with_front [] read ≡ read
with_front-none_read None = refl
with_front-none_read (Some more) = refl

pub with_front-end : {A B : Type 0} (read : A → Option B) (front : List B) → with_front front (all_of read []) ≡ Some front
with_front-end read front = ap Some (append-nil front)

with_front-push : {A : Type 0} (front : List A) (first : A) (read : Option (List A))
    → with_front front (read >>= λ others. Some (first ∷ others)) ≡ with_front (front ++ first ∷ []) read
with_front-push front first None = refl
with_front-push front first (Some others) = ap Some (sym (append_assoc front (first ∷ []) others))

-- One more is read.
pub with_front-read : {A B : Type 0} (read : A → Option B) (front : List B) (x : A) (first : B) (xs : List A) → read x ≡ Some first
    → with_front front (all_of read (x ∷ xs)) ≡ with_front (front ++ first ∷ []) (all_of read xs)
with_front-read read front x first xs found =
    ap (λ r. with_front front (r >>= λ f. all_of read xs >>= λ others. Some (f ∷ others))) found ∙ with_front-push front first (all_of read xs)

-- One isn't read.
pub with_front-refused : {A B : Type 0} (read : A → Option B) (front : List B) (x : A) (xs : List A) → read x ≡ None
    → with_front front (all_of read (x ∷ xs)) ≡ None
with_front-refused read front x xs none =
    ap (λ r. with_front front (r >>= λ f. all_of read xs >>= λ others. Some (f ∷ others))) none
