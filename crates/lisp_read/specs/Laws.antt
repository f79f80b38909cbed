-- Laws of the grammar, each proved once for the crates above. They follow from the definitions. Source: this project's own.
use Rattle.std.specs.Prelude.{◌≡◌, ℕ, ◌<◌, List, [], ◌∷◌, ◌++◌, length, drop}
use Rattle.clvm_spec.specs.Tokens.{Token, Opening, Literal, Took, token_of}
use Rattle.clvm_spec.specs.Tokens as tokens
use Rattle.lisp_read.specs.declared.place.Place.{Place}
use Rattle.lisp_read.specs.Forms.{Form, Atom, Symbol, Pair}
use Rattle.lisp_read.specs.Grammar.{place_in, Read, Reads, with_form, forms_from, forms_of}

-- A text has one reading.
abbrev pub HasOneReading : Type 0
HasOneReading = (number : ℕ) (text : List ℕ) (forms others : List Form) → forms_of number text ≡ Reads forms → forms_of number text ≡ Reads others → forms ≡ others

-- forms before what is read
abbrev pub after : List Form → Read → Read
after [] read = read
after (form ∷ forms) read = with_form form (after forms read)

-- What is read leaves nothing of its text: with more lines behind it, its forms stand before those of the lines.
abbrev pub LeavesNothing : Type 0
LeavesNothing = (number : ℕ) (text lines : List ℕ) (forms : List Form) → forms_of number text ≡ Reads forms →
    forms_of number (text ++ 0x0a ∷ lines) ≡ after forms (forms_from (place_in number (text ++ 0x0a ∷ lines)) lines)

-- ---- places

-- The token begins at that byte of the text.
pub record IsTokenAt (number : ℕ) (text : List ℕ) (place : Place) (token : Token) : Type 0 where
  pub text_is : place.text ≡ number
  pub within : place.at < length text
  pub stands : (rest : List ℕ) × (token_of (drop place.at text) ≡ Took token (drop place.at text) rest)

-- An atom is a token there, or the empty list that begins there, or the end of one.
pub data IsAtomAt (number : ℕ) (text : List ℕ) (place : Place) (bytes : List ℕ) : Type 0 where
  is_token : IsTokenAt number text place (Literal bytes) → IsAtomAt number text place bytes
  is_list : IsTokenAt number text place Opening → bytes ≡ [] → IsAtomAt number text place bytes

-- A form's place is that of its token, or of the `(` of its list.
abbrev pub IsPlaced : ℕ → List ℕ → Form → Type 0
IsPlaced number text (Atom place bytes) = IsAtomAt number text place bytes
IsPlaced number text (Symbol place name) = IsTokenAt number text place (tokens.Symbol name)
IsPlaced number text (Pair place first rest) = IsTokenAt number text place Opening × IsPlaced number text first × IsPlaced number text rest

abbrev pub ArePlaced : ℕ → List ℕ → List Form → Type 0
ArePlaced number text [] = Unit {0}
ArePlaced number text (form ∷ forms) = IsPlaced number text form × ArePlaced number text forms

abbrev pub PlacesAreFirstBytes : Type 0
PlacesAreFirstBytes = (number : ℕ) (text : List ℕ) (forms : List Form) → forms_of number text ≡ Reads forms → ArePlaced number text forms
