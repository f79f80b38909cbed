-- Which messages wait for being told as uneven. Source: this project's own.
use Rattle.std.specs.Prelude.{◌≡◌, ℕ, ◌≤◌, List, Bool, true, false, not, slice_get}
use Rattle.std.specs.List.{IsDistinct}
use Rattle.std.specs.Option.{option_map_or}
use Rattle.std.specs.Map.{keys_of}
use Rattle.cond_spec.specs.Messages.{Message, is_same_message}
use Rattle.cond_rules.specs.declared.letter.Letter.{Letter}
use Rattle.cond_rules.specs.declared.letters.Counts.{Counts}
use Rattle.cond_rules.specs.IndexQueue.{holds, IsLeast}
use Rattle.cond_rules.specs.Letters.{is_even, times_in}

abbrev pub is_uneven_at : List (Message × Counts) → ℕ → Bool
is_uneven_at counts index = option_map_or (λ entry. not (is_even entry.1)) (slice_get counts index) false

-- Each message stands once, none is counted more often than there are letters, and each uneven one is queued.
pub record IsQueued (total : ℕ) (counts : List (Message × Counts)) (queue : List ℕ) : Type 0 where
  pub distinct : IsDistinct is_same_message (keys_of counts)
  pub most : (letter : Letter) → times_in counts letter ≤ total
  pub queued : (index : ℕ) → is_uneven_at counts index ≡ true → holds queue index ≡ true

-- The first in the queue is uneven.
abbrev pub IsSettled : List (Message × Counts) → List ℕ → Type 0
IsSettled counts queue = (index : ℕ) → IsLeast queue index → is_uneven_at counts index ≡ true
