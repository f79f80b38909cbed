-- The text form of CLVM: printing, and scanning with the first fault and its place. Source: Chialisp reference;
-- which atoms are written in decimal, the faults and their order are this project's own.
use Rattle.std.specs.Prelude.{ℕ, Bool, ◌&&◌, List, [], ◌∷◌, ◌++◌, length, bytes_eq, codes, nat_le, if◌then◌else◌, Option, Some, None}
use Rattle.std.specs.Fmt.{signed_decimal}
use Rattle.hex.specs.Hex.{encode_lower}
use Rattle.clvm_spec.specs.declared.scan_kind.ScanKind.{ScanKind}
use Rattle.clvm_spec.specs.Tree.{Tree, Atom, Pair}
use Rattle.clvm_spec.specs.Numbers.{number, shortest_atom}
use Rattle.clvm_spec.specs.OperatorTable.{Operator, operator_at, operator_named}
use Rattle.clvm_spec.specs.Places.{place_of}
use Rattle.clvm_spec.specs.Tokens.{Front, Took, Unread, AtEnd, hex_mark, token_of}
use Rattle.clvm_spec.specs.Grammar.{Language, Parsed, Parses, Breaks, outer_form}

-- ---- printing

abbrev pub is_decimal : List ℕ → Bool
is_decimal bytes = nat_le (length bytes) 2 && bytes_eq (shortest_atom (number bytes)) bytes

abbrev pub hex_text : List ℕ → List ℕ
hex_text bytes = hex_mark ++ encode_lower bytes

-- An atom of 1 or 2 bytes that is the shortest of its number is written in decimal, every other in hexadecimal.
abbrev pub bytes_text : List ℕ → List ℕ
bytes_text bytes = if is_decimal bytes then signed_decimal (number bytes) else hex_text bytes

abbrev pub atom_text : List ℕ → List ℕ
atom_text [] = codes "()"
atom_text (b ∷ bytes) = bytes_text (b ∷ bytes)

-- The first element of a list that is the one byte of an operator is written by its name.
abbrev pub name_or_text : Option Operator → List ℕ → List ℕ
name_or_text None bytes = atom_text bytes
name_or_text (Some row) bytes = row.name

abbrev pub head_text : List ℕ → List ℕ
head_text bytes = name_or_text (operator_at bytes) bytes

-- nil ends a list, and a last atom that isn't nil stands behind a dot
abbrev pub end_text : List ℕ → List ℕ
end_text [] = codes ")"
end_text (b ∷ bytes) = codes " . " ++ atom_text (b ∷ bytes) ++ codes ")"

-- where a tree stands: as the first element of a list, elsewhere, or as what follows an element
pub data Position : Type 0 where
  AsHead : Position
  Alone : Position
  AsRest : Position

-- what a pair's text begins with there, and where its first stands
abbrev pub opening : Position → List ℕ
opening AsHead = codes "("
opening Alone = codes "("
opening AsRest = codes " "

abbrev pub first_position : Position → Position
first_position AsHead = AsHead
first_position Alone = AsHead
first_position AsRest = Alone

abbrev pub text_at : Position → Tree → List ℕ
text_at AsHead (Atom bytes) = head_text bytes
text_at Alone (Atom bytes) = atom_text bytes
text_at AsRest (Atom bytes) = end_text bytes
text_at position (Pair first rest) = opening position ++ text_at (first_position position) first ++ text_at AsRest rest

abbrev pub printed : Tree → List ℕ
printed tree = text_at Alone tree

-- ---- scanning: forms

-- the tree of a form, or the text from its first symbol on that is no operator's name
pub data Named : Type 0 where
  Names : (tree : Tree) → Named
  Unknown : (from : List ℕ) → Named

-- An operator's name is its code.
abbrev pub named : List ℕ → Option Operator → Named
named from None = Unknown from
named from (Some row) = Names (Atom (row.code ∷ []))

-- As in the grammar, a first unknown name stands before all behind it.
abbrev pub paired : Named → Named → Named
paired (Names first) (Names rest) = Names (Pair first rest)
paired (Names first) (Unknown from) = Unknown from
paired (Unknown from) rest = Unknown from

abbrev pub unknown_in : Named → Option (List ℕ)
unknown_in (Names tree) = None
unknown_in (Unknown from) = Some from

-- CLVM's forms: trees. A place is the text from there on.
abbrev pub clvm : Language Named (List ℕ)
clvm = record {
  place = λ from. from;
  atom = λ from bytes. Names (Atom bytes);
  symbol = λ from name. named from (operator_named name);
  pair = λ list first rest. paired first rest;
  unknown = unknown_in;
}

abbrev pub ParsedTree : Type 0
ParsedTree = Parsed Named (List ℕ)

abbrev pub form_of : List ℕ → ParsedTree
form_of text = outer_form clvm (token_of text)

-- ---- scanning: the whole text

pub data Scanned : Type 0 where
  -- the one form of the text
  Scans : Tree → Scanned
  Unreadable : (kind : ScanKind) (place : ℕ) → Scanned
  -- A symbol is no operator's name.
  Unnamed : (place : ℕ) → Scanned
  -- a token behind the form
  LeftOver : (place : ℕ) → Scanned

-- An unknown name stands before what is wrong behind it.
abbrev pub broken : List ℕ → ScanKind → Option (List ℕ) → List ℕ → Scanned
broken text kind None from = Unreadable kind (place_of text from)
broken text kind (Some name) from = Unnamed (place_of text name)

-- what a form is with what stands behind it
abbrev pub at_last : List ℕ → Named → Front → Scanned
at_last text (Unknown name) front = Unnamed (place_of text name)
at_last text (Names tree) AtEnd = Scans tree
at_last text (Names tree) (Unread kind from) = broken text kind None from
at_last text (Names tree) (Took token from rest) = LeftOver (place_of text from)

abbrev pub whole : List ℕ → ParsedTree → Scanned
whole text (Parses form rest) = at_last text form (token_of rest)
whole text (Breaks kind unknown from) = broken text kind unknown from

-- Of all faults of a text the first from the front is told.
unfoldable pub scanned : List ℕ → Scanned
scanned text = whole text (form_of text)
