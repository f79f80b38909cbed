-- What the spends of a list ask of it and make in it, as far as it is told by hashes and ids. Source: this project's own.
use Rattle.std.specs.Prelude.{◌≡◌, ◌≤◌, ℕ, ◌+◌, ◌||◌, List, [], ◌∷◌, ◌++◌, map, Bool, false, not, Option, option_map}
use Rattle.std.specs.List.{list_any, find, flat_map, position_or_len}
use Rattle.coin_facts.specs.IdLists.{is_same_id}
use Rattle.cond_spec.specs.Acts.{Acts}
use Rattle.cond_rules.specs.declared.want.Want.{Want}
use Rattle.cond_rules.specs.declared.want.Want.TheVariants.{CoinAnnouncement, PuzzleAnnouncement, Spend, Puzzle, Creation}
use Rattle.cond_rules.specs.declared.wants.Ask.{Ask}

abbrev pub is_same_want : Want → Want → Bool
is_same_want (CoinAnnouncement a) (CoinAnnouncement b) = is_same_id a b
is_same_want (PuzzleAnnouncement a) (PuzzleAnnouncement b) = is_same_id a b
is_same_want (Spend a) (Spend b) = is_same_id a b
is_same_want (Puzzle a) (Puzzle b) = is_same_id a b
is_same_want (Creation a) (Creation b) = is_same_id a b
is_same_want _ _ = false

abbrev pub is_made : List Want → Want → Bool
is_made made want = list_any (is_same_want want) made

-- These are made beside those that were.
abbrev pub Makes : List Want → List Want → List Want → Type 0
Makes old wants new = (want : Want) → is_made new want ≡ (is_made old want || is_made wants want)

abbrev pub is_open : List Want → Ask → Bool
is_open made ask = not (is_made made ask.want)

-- how many asks stand before the first that isn't met
abbrev pub count_met : List Want → List Ask → ℕ
count_met made asked = position_or_len (is_open made) asked

-- what is asked, in order, and what is made
pub record Wanted : Type 0 where
  pub asked : List Ask
  pub made : List Want

-- the same, and how many more of each have room
pub record Wants : Type 0 where
  pub wanted : Wanted
  pub room_to_ask : ℕ
  pub room_to_make : ℕ

abbrev pub HasRoom : Wants → ℕ → ℕ → Type 0
HasRoom wants asks makes = (asks ≤ wants.room_to_ask) × (makes ≤ wants.room_to_make)

-- the place of the first ask that isn't met
abbrev pub first_open : Wanted → Option ℕ
first_open wanted = option_map (λ ask. ask.place) (find (is_open wanted.made) wanted.asked)

-- ---- of spends

abbrev pub asks_at : ℕ → List Want → List Ask
asks_at place wants = map (λ want. record { place = place; want = want }) wants

abbrev pub asks_from : (Acts → List Want) → ℕ → List Acts → List Ask
asks_from asked place [] = []
asks_from asked place (acts ∷ list) = asks_at place (asked acts) ++ asks_from asked (place + 1) list

-- The spend of a place asks and makes these beside what was asked and made.
pub record AddsWants (old : Wanted) (place : ℕ) (asked made : List Want) (new : Wanted) : Type 0 where
  pub asks : new.asked ≡ old.asked ++ asks_at place asked
  pub makes : Makes old.made made new.made

-- This is what a list asks and makes, by what each spend does.
pub record AreWantsOf (asked made : Acts → List Want) (wanted : Wanted) (list : List Acts) : Type 0 where
  pub asks : wanted.asked ≡ asks_from asked 0 list
  pub makes : (want : Want) → is_made wanted.made want ≡ is_made (flat_map made list) want
