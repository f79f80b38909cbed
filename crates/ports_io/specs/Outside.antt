-- What one call does to the bytes and texts that an object of the outside tells, and to its count of faults.
-- This project's own. The words for bytes that grow, shrink or stay, where they are told, are the toolchain's
-- (`Appends`, `Consumes`, `Keeps`, `IsAtEnd`).
use Rattle.std.specs.Prelude.{◌≡◌, ℕ, ◌+◌, ◌-◌, ◌^◌, ◌≤◌, min, ⊤, List, length, Option, Some, None, Result, OnErr}
use Rattle.std.specs.Io.KnownBytes.{Consumes}

-- a count after one more fault: it rises up to the last value of a u64, and stays there
abbrev pub counted : ℕ → ℕ
counted faults = min (faults + 1) (2 ^ 64 - 1)

-- The count rose in a call: it is larger after the call than before, or stands at the last value.
abbrev pub Rose : ℕ → ℕ → Type 0
Rose before now = counted before ≤ now

-- No count falls, and an error comes only where it rose.
pub record HasCause {T E : Type 0} (before now : ℕ) (result : Result T E) : Type 0 where
  pub later : before ≤ now
  pub failed : OnErr result (Rose before now)

-- So many bytes were taken from the front of what was told, and the others are told.
abbrev pub Took : Option (List ℕ) → Option (List ℕ) → (ℕ → Type 0) → Type 0
Took before after IsCount = (taken : List ℕ) × IsCount (length taken) × Consumes before after taken

-- What was told before a call is told unchanged after it.
abbrev pub Stays : {A : Type 0} → Option A → Option A → Type 0
Stays None after = ⊤
Stays (Some x) None = ⊥
Stays (Some x) (Some y) = y ≡ x

-- the text of this name, or None where there is none, by texts that are told
abbrev pub IsTextOf : List ℕ → Option (List ℕ → Option (List ℕ)) → Option (List ℕ) → Type 0
IsTextOf name None answer = ⊤
IsTextOf name (Some texts) answer = answer ≡ texts name
