-- Readings that go on only where something was found. Source: this project's own.
use Rattle.std.specs.Prelude.{List, [], ◌∷◌, Bool, Option, Some, None, option_and_then, if◌then◌else◌}

infixl 10 ◌>>=◌
abbrev pub ◌>>=◌ : {A B : Type 0} → Option A → (A → Option B) → Option B
read >>= next = option_and_then next read

-- what is read of each, where something is read of all
abbrev pub all_of : {A B : Type 0} → (A → Option B) → List A → Option (List B)
all_of read [] = Some []
all_of read (x ∷ xs) = option_and_then (λ first. option_and_then (λ others. Some (first ∷ others)) (all_of read xs)) (read x)

-- a value where a test holds
abbrev pub when : {A : Type 0} → Bool → A → Option A
when test value = if test then Some value else None
