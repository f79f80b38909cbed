-- The grammar of Chialisp text: its forms with their places, or the first fault with its place. Source: Chialisp
-- reference; the places are this project's own.
use Rattle.std.specs.Prelude.{ℕ, zero, suc, List, [], ◌∷◌, length, None}
use Rattle.clvm_spec.specs.declared.scan_kind.ScanKind.{ScanKind}
use Rattle.clvm_spec.specs.Places.{place_of}
use Rattle.clvm_spec.specs.Tokens.{Front, AtEnd, token_of}
use Rattle.clvm_spec.specs.Grammar.{Language, Parsed, Parses, Breaks, outer_form}
use Rattle.lisp_read.specs.declared.place.Place.{Place}
use Rattle.lisp_read.specs.Forms.{Form, Atom, Symbol, Pair}

-- the place in a text with this number at which the text from there on begins
abbrev pub place_in : ℕ → List ℕ → List ℕ → Place
place_in number text from = record { text = number; at = place_of text from }

-- how the text from there on is placed
abbrev pub Places : Type 0
Places = List ℕ → Place

-- Chialisp's forms: each keeps its place, each pair and the end of a list that of the list. Any symbol may stand.
abbrev pub chialisp : Places → Language Form Place
chialisp there = record { place = there; atom = Atom; symbol = Symbol; pair = Pair; unknown = λ form. None }

abbrev pub ParsedForm : Type 0
ParsedForm = Parsed Form Place

-- ---- the forms of a text

pub data Read : Type 0 where
  -- all forms of the text
  Reads : List Form → Read
  -- the first fault and its place
  Unreadable : (kind : ScanKind) (at : ℕ) → Read

abbrev pub with_form : Form → Read → Read
with_form form (Reads forms) = Reads (form ∷ forms)
with_form form (Unreadable kind at) = Unreadable kind at

-- a form, and those behind it
abbrev pub with_forms : (List ℕ → Read) → ParsedForm → Read
with_forms more (Parses form rest) = with_form form (more rest)
with_forms more (Breaks kind unknown place) = Unreadable kind place.at

abbrev pub forms_at : Places → (List ℕ → Read) → Front → Read
forms_at there more AtEnd = Reads []
forms_at there more front = with_forms more (outer_form (chialisp there) front)

-- Each form takes a byte, so the number only bounds the recursion.
abbrev pub forms_within : Places → ℕ → List ℕ → Read
forms_within there zero text = Reads []
forms_within there (suc bound) text = forms_at there (forms_within there bound) (token_of text)

-- the forms from some place of a text on
abbrev pub forms_from : Places → List ℕ → Read
forms_from there text = forms_within there (suc (length text)) text

-- The forms of the text with this number, from first to last.
unfoldable pub forms_of : ℕ → List ℕ → Read
forms_of number text = forms_from (place_in number text) text
