-- How often messages are sent and received, and the first place of each. Source: this project's own.
use Rattle.std.specs.Prelude.{◌≡◌, ℕ, ◌+◌, ◌==◌, ◌&&◌, List, length, map, Bool, true, false, not, Option, option_map, count_by, position}
use Rattle.std.specs.List.{list_any, find, flat_map}
use Rattle.std.specs.Option.{option_or, option_map_or}
use Rattle.std.specs.Map.{lookup}
use Rattle.coin_facts.specs.Steps.{when}
use Rattle.cond_spec.specs.Acts.{Acts}
use Rattle.cond_spec.specs.Messages.{Message, is_same_message}
use Rattle.cond_rules.specs.declared.letter.Way.{Way}
use Rattle.cond_rules.specs.declared.letter.Way.TheVariants.{Sent, Received}
use Rattle.cond_rules.specs.declared.letter.Letter.{Letter}
use Rattle.cond_rules.specs.declared.letters.Counts.{Counts}

abbrev pub is_same_way : Way → Way → Bool
is_same_way Sent Sent = true
is_same_way Received Received = true
is_same_way _ _ = false

abbrev pub is_same_letter : Letter → Letter → Bool
is_same_letter a b = is_same_way a.way b.way && is_same_message a.message b.message

-- ---- counts of one message

abbrev pub times_of : Way → Counts → ℕ
times_of Sent counts = counts.sent
times_of Received counts = counts.received

abbrev pub is_even : Counts → Bool
is_even counts = counts.sent == counts.received

abbrev pub fresh : ℕ → Counts
fresh place = record { first = place; sent = 0; received = 0 }

abbrev pub more : Way → Counts → Counts
more Sent counts = record counts { sent = counts.sent + 1 }
more Received counts = record counts { received = counts.received + 1 }

-- ---- counts of messages

-- the counts, how many letters they are of, and how many more have room
pub record Letters : Type 0 where
  pub counts : List (Message × Counts)
  pub total : ℕ
  pub room : ℕ

-- how often a letter is counted
abbrev pub times_in : List (Message × Counts) → Letter → ℕ
times_in counts letter = option_map_or (times_of letter.way) (lookup (is_same_message letter.message) counts) 0

-- the first place of a message that passes a test
abbrev pub first_with : (Message → Bool) → List (Message × Counts) → Option ℕ
first_with test counts = option_map (λ entry. entry.1.first) (find (λ entry. test entry.0) counts)

abbrev pub is_uneven_in : List (Message × Counts) → Message → Bool
is_uneven_in counts message =
    not (times_in counts (record { way = Sent; message = message }) == times_in counts (record { way = Received; message = message }))

abbrev pub first_uneven : List (Message × Counts) → Option ℕ
first_uneven counts = first_with (is_uneven_in counts) counts

-- ---- of spends

abbrev pub is_any : (Message → Bool) → List Letter → Bool
is_any test letters = list_any (λ letter. test letter.message) letters

-- The letters of the spend of a place are counted beside those that were.
pub record AddsLetters (old : List (Message × Counts)) (place : ℕ) (letters : List Letter) (new : List (Message × Counts)) : Type 0 where
  pub times : (letter : Letter) → times_in new letter ≡ times_in old letter + count_by (is_same_letter letter) letters
  pub first : (test : Message → Bool) → first_with test new ≡ option_or (first_with test old) (when (is_any test letters) place)

-- These are the counts and first places of a list's messages, by the letters of each spend.
pub record AreLettersOf (letters : Acts → List Letter) (counts : List (Message × Counts)) (list : List Acts) : Type 0 where
  pub times : (letter : Letter) → times_in counts letter ≡ count_by (is_same_letter letter) (flat_map letters list)
  pub first : (test : Message → Bool) → first_with test counts ≡ position (λ acts. is_any test (letters acts)) list
