-- Where in its text a token stands. Source: this project's own.
use Rattle.std.specs.Prelude.{◌≡◌, ℕ, ◌<◌, ◌≤◌, List, length, drop}
use Rattle.clvm_spec.specs.Places.{place_of}
use Rattle.clvm_spec.specs.Tokens.{Front, Took, Unread, AtEnd}

-- It is the end of the text.
pub record IsEnd (end text : List ℕ) : Type 0 where
  pub within : length end ≤ length text
  pub stands : end ≡ drop (place_of text end) text

-- A token has at least one byte, and what is behind it is behind its first byte.
abbrev pub AreEnds : List ℕ → Front → Type 0
AreEnds text (Took token from rest) = IsEnd from text × IsEnd rest text × (length rest < length from)
AreEnds text (Unread kind from) = IsEnd from text
AreEnds text AtEnd = Unit {0}
