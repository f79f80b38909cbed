-- What is read of each element of a proper list, element by element.
use Rattle.std.proofs.Common.{◌≡◌, List, ◌∷◌, Option, Some, None, refl}
use Rattle.std.specs.Prelude.{option_map, option_and_then}
use Rattle.coin_facts.specs.Steps.{all_of}

-- what is read of the first, in front of what is read of the others
abbrev pub with_first : {A : Type 0} → Option A → Option (List A) → Option (List A)
with_first first others = option_and_then (λ x. option_and_then (λ xs. Some (x ∷ xs)) others) first

none-behind : {A : Type 0} (first : Option A) → None ≡ with_first first None
none-behind None = refl
none-behind (Some x) = refl

pub all_of-more : {A B : Type 0} (read : A → Option B) (first : A) (more : Option (List A))
    → option_and_then (all_of read) (option_map (λ others. first ∷ others) more) ≡ with_first (read first) (option_and_then (all_of read) more)
all_of-more read first None = none-behind (read first)
all_of-more read first (Some others) = refl
