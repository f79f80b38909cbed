-- That the bound in the definition of includes is no part of its meaning: a law of the definitions, proved once for the
-- crates above.
use Rattle.std.specs.Prelude.{◌≡◌, ℕ, ◌≤◌, List, length, Ok, if◌then◌else◌}
use Rattle.lisp_spec.specs.Forms.{Place}
use Rattle.lisp_spec.specs.ModuleFaults.{is_among}
use Rattle.lisp_spec.specs.Inclusion.{Walk, Texts, most_texts, next_text, with_text, included}

-- Each text that is included so far has a number.
abbrev pub AreNumbered : Walk → Type 0
AreNumbered walk = length walk.included ≤ most_texts

-- What an include adds is nothing where its name is there, else what its text has, with the same for what that includes.
abbrev pub IncludeIsItsStep : Type 0
IncludeIsItsStep = (texts : Texts) (place : Place) (name : List ℕ) (walk : Walk) → AreNumbered walk →
    included texts place name walk ≡ (if is_among name walk.included then Ok walk else with_text (included texts) place name walk (next_text texts walk name))

abbrev pub IncludesKeepNumbers : Type 0
IncludesKeepNumbers = (texts : Texts) (place : Place) (name : List ℕ) (walk next : Walk) → AreNumbered walk → included texts place name walk ≡ Ok next → AreNumbered next
