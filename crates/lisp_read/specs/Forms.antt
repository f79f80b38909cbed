-- The forms of Chialisp text. Source: Chialisp reference; the places are this project's own.
use Rattle.std.specs.Prelude.{ℕ, Bool, true, false, List}
use Rattle.lisp_read.specs.declared.place.Place.{Place}

pub data Form : Type 0 where
  Atom : (place : Place) (bytes : List ℕ) → Form
  Symbol : (place : Place) (name : List ℕ) → Form
  Pair : (place : Place) (first rest : Form) → Form

abbrev pub place_of_form : Form → Place
place_of_form (Atom place bytes) = place
place_of_form (Symbol place name) = place
place_of_form (Pair place first rest) = place

abbrev pub is_pair : Form → Bool
is_pair (Atom place bytes) = false
is_pair (Symbol place name) = false
is_pair (Pair place first rest) = true
