-- How the answers of the calls tell a reading and a listing. Source: this project's own.
use Rattle.std.specs.Prelude.{◌≡◌, ℕ, Result, Ok, Err}
use Rattle.cond_spec.specs.declared.condition.Condition.{Condition}
use Rattle.cond_spec.specs.Conditions.{Reading, Reads, IsMalformed, IsUnknown, Listing, MalformedAt, UnknownAt}
use Rattle.cond_parse.specs.declared.fault.Flaw.{Flaw}
use Rattle.cond_parse.specs.declared.fault.Flaw.TheVariants as flaw
use Rattle.cond_parse.specs.declared.fault.CondFault.{CondFault}
use Rattle.cond_parse.specs.declared.fault.CondFault.TheVariants.{Malformed, Unknown, OutOfMemory}

-- Without memory nothing is said.
abbrev pub IsFlawOf : Reading → Flaw → Type 0
IsFlawOf reading flaw.Malformed = reading ≡ IsMalformed
IsFlawOf reading flaw.Unknown = reading ≡ IsUnknown
IsFlawOf reading flaw.OutOfMemory = Unit {0}

abbrev pub IsReading : Reading → Result Condition Flaw → Type 0
IsReading reading (Ok condition) = reading ≡ Reads condition
IsReading reading (Err flaw) = IsFlawOf reading flaw

-- the same with a place
abbrev pub IsFaultAt : ℕ → Reading → CondFault → Type 0
IsFaultAt place reading (Malformed at) = (reading ≡ IsMalformed) × (at ≡ place)
IsFaultAt place reading (Unknown at) = (reading ≡ IsUnknown) × (at ≡ place)
IsFaultAt place reading OutOfMemory = Unit {0}

abbrev pub IsReadingAt : ℕ → Reading → Result Condition CondFault → Type 0
IsReadingAt place reading (Ok condition) = reading ≡ Reads condition
IsReadingAt place reading (Err fault) = IsFaultAt place reading fault

-- the fault of a listing
abbrev pub IsFirstFault : Listing → CondFault → Type 0
IsFirstFault listing (Malformed place) = listing ≡ MalformedAt place
IsFirstFault listing (Unknown place) = listing ≡ UnknownAt place
IsFirstFault listing OutOfMemory = Unit {0}
