-- Several calls of one object of the outside, for callers that make them in a loop.
use Rattle.std.proofs.Common.{ℕ, ◌≤◌, List, Option, Some, None, refl, ap, ◌∙◌, arith}
use Rattle.ports_io.specs.Outside.{IsTextOf, Rose, Stays}

-- a count that rose in an earlier call
pub Rose-then : (before now later : ℕ) → Rose before now → now ≤ later → Rose before later
Rose-then before now later rose more = omega arith

-- a count that rose in a later call
pub Rose-after : (before now later : ℕ) → before ≤ now → Rose now later → Rose before later
Rose-after before now later more rose = omega arith

pub Stays-refl : {A : Type 0} (told : Option A) → Stays told told
Stays-refl None = tt
Stays-refl (Some x) = refl

pub Stays-trans : {A : Type 0} (a b c : Option A) → Stays a b → Stays b c → Stays a c
Stays-trans None b c first next = tt
Stays-trans (Some x) None c first next = absurd first
Stays-trans (Some x) (Some y) None first next = absurd next
Stays-trans (Some x) (Some y) (Some z) first next = next ∙ first

-- a later answer is by the first texts
pub IsTextOf-stays : (name : List ℕ) (before now : Option (List ℕ → Option (List ℕ))) (answer : Option (List ℕ)) → Stays before now → IsTextOf name now answer → IsTextOf name before answer
IsTextOf-stays name None now answer stays answers = tt
IsTextOf-stays name (Some texts) None answer stays answers = absurd stays
IsTextOf-stays name (Some texts) (Some same) answer stays answers = answers ∙ ap (λ f. f name) stays
