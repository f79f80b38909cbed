-- What a call has read of the operands of a condition. Source: this project's own.
use Rattle.std.specs.Prelude.{◌≡◌, ℕ, List, Option, Some, None, Result, Ok, Err}
use Rattle.clvm_spec.specs.Tree.{Tree, Atom, Pair}
use Rattle.cond_spec.specs.declared.condition.Condition.{Condition}
use Rattle.cond_spec.specs.declared.party.Party.{Party}
use Rattle.cond_parse.specs.declared.fault.Flaw.{Flaw}
use Rattle.cond_parse.specs.declared.fault.Flaw.TheVariants.{Malformed, Unknown, OutOfMemory}

-- the bytes of the first operand, where it is an atom, and the operands behind it
abbrev pub first_atom : Tree → Option (List ℕ × Tree)
first_atom (Pair (Atom bytes) rest) = Some (bytes, rest)
first_atom (Pair (Pair first more) rest) = None
first_atom (Atom bytes) = None

-- Nothing is read, and that is why; without memory nothing is said.
abbrev pub Lacks : Option Condition → Flaw → Type 0
Lacks read Malformed = read ≡ None
Lacks read Unknown = ⊥
Lacks read OutOfMemory = Unit {0}

-- a step of a reading, which goes on with a value and what is behind it
abbrev pub Takes : {A : Type 0} → ((A → Tree → Option Condition) → Option Condition) → Result A Flaw → Tree → Type 0
Takes {A} step (Ok value) rest = (next : A → Tree → Option Condition) → step next ≡ next value rest
Takes {A} step (Err flaw) rest = (next : A → Tree → Option Condition) → Lacks (step next) flaw

-- a whole reading of one operand, of two, and of a message, by what makes a condition of them
abbrev pub ReadsOne : {A : Type 0} → ((A → Condition) → Option Condition) → Result A Flaw → Type 0
ReadsOne {A} read (Ok value) = (make : A → Condition) → read make ≡ Some (make value)
ReadsOne {A} read (Err flaw) = (make : A → Condition) → Lacks (read make) flaw

abbrev pub ReadsTwo : {A B : Type 0} → ((A → B → Condition) → Option Condition) → Result (A × B) Flaw → Type 0
ReadsTwo {A} {B} read (Ok pair) = (make : A → B → Condition) → read make ≡ Some (make pair.0 pair.1)
ReadsTwo {A} {B} read (Err flaw) = (make : A → B → Condition) → Lacks (read make) flaw

abbrev pub ReadsMessage : ((ℕ → List ℕ → Party → Condition) → Option Condition) → Result (ℕ × List ℕ × Party) Flaw → Type 0
ReadsMessage read (Ok parts) = (make : ℕ → List ℕ → Party → Condition) → read make ≡ Some (make parts.0 parts.1 parts.2)
ReadsMessage read (Err flaw) = (make : ℕ → List ℕ → Party → Condition) → Lacks (read make) flaw
