-- The grammar of lists, which CLVM's text and Chialisp's share: its forms, or the first fault with its place. Source:
-- Chialisp reference; the limit of nesting, the faults and their order are this project's own.
use Rattle.std.specs.Prelude.{ℕ, zero, suc, Bool, true, false, List, [], length, nat_lt, if◌then◌else◌, Option, None}
use Rattle.std.specs.Option.{option_or}
use Rattle.clvm_spec.specs.declared.limits.TheConstants.{MOST_OPEN}
use Rattle.clvm_spec.specs.declared.scan_kind.ScanKind.{ScanKind}
use Rattle.clvm_spec.specs.declared.scan_kind.ScanKind.TheVariants.{End, Close, Dot, Deep}
use Rattle.clvm_spec.specs.Tokens.{Opening, Closing, Point, Literal, Symbol, Front, Took, Unread, AtEnd, token_of}

-- What a language makes of what is read.
pub record Language (Form Place : Type 0) : Type 0 where
  -- the place at which the text from there on begins
  pub place : List ℕ → Place
  -- an atom and a symbol at their places
  pub atom : Place → List ℕ → Form
  pub symbol : Place → List ℕ → Form
  -- an element of the list at this place, and what follows it there
  pub pair : Place → Form → Form → Form
  -- where in a form the first symbol stands that the language doesn't know, if one does
  pub unknown : Form → Option Place

-- a form and the text behind it; or the first fault: its kind, the place of the first unknown symbol before it, and its
-- own place
pub data Parsed (Form Place : Type 0) : Type 0 where
  Parses : (form : Form) (rest : List ℕ) → Parsed Form Place
  Breaks : (kind : ScanKind) (unknown : Option Place) (at : Place) → Parsed Form Place

-- how what stands in a list is read, from inside so many parentheses on, in the list at this place, behind an element of it
-- or at its front
abbrev pub InList : Type 0 → Type 0 → Type 0
InList Form Place = ℕ → Place → Bool → List ℕ → Parsed Form Place

-- Whatever is wrong behind a dot is the dot's fault, but nesting too deep, since that is still a form. So of several open
-- dots the outermost is told.
abbrev pub is_dots_fault : ScanKind → Bool
is_dots_fault Deep = false
is_dots_fault kind = true

abbrev pub behind_dot : {Form Place : Type 0} → Place → ScanKind → Option Place → Place → Parsed Form Place
behind_dot dot kind unknown at = if is_dots_fault kind then Breaks Dot None dot else Breaks kind unknown at

-- behind a dot and one form
abbrev pub closed : {Form Place : Type 0} → Place → Form → Front → Parsed Form Place
closed dot form (Took Closing from rest) = Parses form rest
closed dot form front = Breaks Dot None dot

-- Behind a dot stand one form and `)`.
abbrev pub last_form : {Form Place : Type 0} → Place → Parsed Form Place → Parsed Form Place
last_form dot (Parses form rest) = closed dot form (token_of rest)
last_form dot (Breaks kind unknown at) = behind_dot dot kind unknown at

-- how many lists may stand in one another
abbrev pub most_open : ℕ
most_open = MOST_OPEN

module _ {Form Place : Type 0} (language : Language Form Place) where
  -- A `(` opens a list, if it isn't one too many.
  abbrev pub opened : InList Form Place → ℕ → List ℕ → List ℕ → Parsed Form Place
  opened list depth from rest = if nat_lt depth most_open then list (suc depth) (language.place from) false rest else Breaks Deep None (language.place from)

  -- one form
  abbrev pub form_at : InList Form Place → ℕ → Front → Parsed Form Place
  form_at list depth AtEnd = Breaks End None (language.place [])
  form_at list depth (Unread kind from) = Breaks kind None (language.place from)
  form_at list depth (Took Closing from rest) = Breaks Close None (language.place from)
  form_at list depth (Took Point from rest) = Breaks Dot None (language.place from)
  form_at list depth (Took (Literal bytes) from rest) = Parses (language.atom (language.place from) bytes) rest
  form_at list depth (Took (Symbol name) from rest) = Parses (language.symbol (language.place from) name) rest
  form_at list depth (Took Opening from rest) = opened list depth from rest

  -- What is read behind an element of a list. An unknown symbol in the element stands before all that.
  abbrev pub behind : Place → Form → Parsed Form Place → Parsed Form Place
  behind place form (Parses forms rest) = Parses (language.pair place form forms) rest
  behind place form (Breaks kind unknown at) = Breaks kind (option_or (language.unknown form) unknown) at

  -- an element, and the list behind it
  abbrev pub with_rest : InList Form Place → ℕ → Place → Parsed Form Place → Parsed Form Place
  with_rest list depth place (Parses form rest) = behind place form (list depth place true rest)
  with_rest list depth place (Breaks kind unknown at) = Breaks kind unknown at

  -- What stands in a list, whether behind an element or at its front, up to its `)`. The empty atom ends it.
  abbrev pub list_at : InList Form Place → ℕ → Place → Bool → Front → Parsed Form Place
  list_at list depth place begun (Took Closing from rest) = Parses (language.atom place []) rest
  list_at list depth place true (Took Point from rest) = last_form (language.place from) (form_at list depth (token_of rest))
  list_at list depth place begun front = with_rest list depth place (form_at list depth front)

  -- Each token takes a byte, so the first number only bounds the recursion.
  abbrev pub list_within : ℕ → InList Form Place
  list_within zero depth place begun text = Breaks End None (language.place [])
  list_within (suc bound) depth place begun text = list_at (list_within bound) depth place begun (token_of text)

  -- what stands in a list, with nothing to bound it
  abbrev pub list_from : InList Form Place
  list_from depth place begun text = list_within (suc (length text)) depth place begun text

  -- a form that stands in no list
  abbrev pub outer_form : Front → Parsed Form Place
  outer_form front = form_at list_from 0 front
