-- What is wrong with the text of a module, and where. Source: this project's own.
use Rattle.std.specs.Prelude.{List, ℕ, Bool, Option, Some, None, Result, Ok, Err, bytes_eq, if◌then◌else◌}
use Rattle.std.specs.List.{list_any}
use Rattle.std.specs.Option.{option_or}
use Rattle.clvm_spec.specs.declared.scan_kind.ScanKind.{ScanKind}
use Rattle.lisp_spec.specs.Forms.{Place}

pub data Kind : Type 0 where
  -- A text can't be read.
  Unreadable : ScanKind → Kind
  -- A text, a definition or a name isn't of the shape of a module's.
  NotAModule : Kind
  -- Two definitions, or two parameters of one tree, have one name.
  NameTwice : Kind
  -- There is no text of that name, it is too long, or there are too many.
  IncludeMissing : Kind
  -- The macros of a module take more turns than there are.
  TurnsSpent : Kind
  -- A macro's body that is met can't be evaluated, or gives a form nested too deep.
  BadMacro : Kind
  -- A pair isn't an expression.
  BadForm : Kind
  -- A symbol names nothing that may stand there.
  Unbound : Kind
  -- A constant's expression has no value.
  ConstantFails : Kind
  -- An inline reaches itself through inlines alone.
  InlineCycle : Kind
  -- A form, a value or an expression is past the limit of weights.
  TooLarge : Kind

-- The place has the number of the text: 0 is the module's own, k the k-th that was included.
pub record Fault : Type 0 where
  pub kind : Kind
  pub place : Place

abbrev pub fault : Kind → Place → Fault
fault kind place = record { kind = kind; place = place }

abbrev pub text_start : ℕ → Place
text_start number = record { text = number; at = 0 }

-- what is found, or the first fault
abbrev pub Judged : Type 0 → Type 0
Judged A = Result A Fault

infixl 10 ◌>>=◌
abbrev pub ◌>>=◌ : {A B : Type 0} → Judged A → (A → Judged B) → Judged B
Ok found >>= next = next found
Err first >>= next = Err first

abbrev pub fault_of : {A : Type 0} → Judged A → Option Fault
fault_of (Ok found) = None
fault_of (Err first) = Some first

-- the first of two faults
infixr 20 ◌or◌
abbrev pub ◌or◌ : Option Fault → Option Fault → Option Fault
first or later = option_or first later

-- goes on where there is no fault
abbrev pub unless : {A : Type 0} → Option Fault → A → Judged A
unless None found = Ok found
unless (Some first) found = Err first

-- the fault of what doesn't hold
abbrev pub expect : Bool → Kind → Place → Option Fault
expect holds kind place = if holds then None else Some (fault kind place)

abbrev pub is_among : List ℕ → List (List ℕ) → Bool
is_among name names = list_any (bytes_eq name) names
