-- How the cases of macros by computation are written: forms by their text, with the places in it.
use Rattle.std.specs.Prelude.{◌≡◌, ℕ, List, [], ◌∷◌, codes}
use Prim.Native.String.{String}
use Rattle.lisp_read.specs.Grammar.{Read, Reads, forms_of}
use Rattle.lisp_spec.specs.Forms.{Form, Atom, Symbol, Pair, Place}
use Rattle.lisp_spec.specs.Macros.{Macro, MacroFault}
use Rattle.lisp_spec.specs.MacroBodies.{BodyValue, Gives, Stops, body_value}
use Rattle.lisp_spec.specs.Expansion.{Expanded, Expands, Breaks, expansion}

abbrev pub at : ℕ → Place
at n = record { text = 0; at = n }

-- what stands for a text that hasn't one form: no case has it
abbrev unreadable : Form
unreadable = Symbol (at 0) (codes "unreadable")

abbrev one_form : Read → Form
one_form (Reads (form ∷ [])) = form
one_form read = unreadable

-- the form of a text, with its places
abbrev pub placed : String → Form
placed text = one_form (forms_of 0 (codes text))

-- a form as it is whatever its places are
abbrev pub unplaced : Form → Form
unplaced (Atom place bytes) = Atom (at 0) bytes
unplaced (Symbol place name) = Symbol (at 0) name
unplaced (Pair place first rest) = Pair (at 0) (unplaced first) (unplaced rest)

-- ---- bodies

-- a body for a call with these operands, from so many turns on
abbrev pub body_of_call : String → String → String → ℕ → BodyValue
body_of_call params body operands turns = body_value (record { params = placed params; operands = placed operands; place = at 0 }) (placed body) turns

abbrev pub value_without_places : BodyValue → BodyValue
value_without_places (Gives form left) = Gives (unplaced form) left
value_without_places (Stops fault left) = Stops fault left

-- the form, whatever its places are, and how many turns are left
abbrev pub body_gives : String → String → String → ℕ → String → ℕ → Type 0
body_gives params body operands turns value left = value_without_places (body_of_call params body operands turns) ≡ Gives (unplaced (placed value)) left

abbrev pub body_stops : String → String → String → ℕ → MacroFault → ℕ → Type 0
body_stops params body operands turns fault left = body_of_call params body operands turns ≡ Stops fault left

-- ---- expansion

abbrev pub defmacro : String → String → String → Macro
defmacro name params body = record { name = codes name; params = placed params; body = placed body }

abbrev pub without_places : Expanded → Expanded
without_places (Expands form left) = Expands (unplaced form) left
without_places (Breaks fault place left) = Breaks fault place left

abbrev pub expands : List Macro → ℕ → String → String → ℕ → Type 0
expands macros turns text result left = without_places (expansion macros (placed text) turns) ≡ Expands (unplaced (placed result)) left

abbrev pub breaks : List Macro → ℕ → String → MacroFault → ℕ → ℕ → Type 0
breaks macros turns text fault place left = expansion macros (placed text) turns ≡ Breaks fault (at place) left
