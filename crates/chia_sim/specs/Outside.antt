-- What one run of the program reads and writes. This project's own.
use Rattle.std.specs.Prelude.{ℕ, ◌<◌, ◌≤◌, ◌⊎◌, List, ◌++◌, length, take, Option}
use Rattle.std.specs.Io.KnownBytes.{Appends, Consumes, IsAtEnd}
use Rattle.ports_io.specs.Outside.{Rose, Took}
use Rattle.chia_sim.specs.declared.limits.TheConstants.{MOST_INPUT}
use Rattle.session_spec.specs.Texts.{line_feed}

-- the bytes that are left in the source, where it tells them, and its count of faults, before the run and after it
pub record Reading : Type 0 where
  pub left : Option (List ℕ)
  pub left_after : Option (List ℕ)
  pub faults : ℕ
  pub faults_after : ℕ

-- the bytes that the sink got, where it tells them, and its count of faults, before the run and after it
pub record Writing : Type 0 where
  pub got : Option (List ℕ)
  pub got_after : Option (List ℕ)
  pub faults : ℕ
  pub faults_after : ℕ

abbrev pub reading : Option (List ℕ) → Option (List ℕ) → ℕ → ℕ → Reading
reading left left_after faults faults_after = record { left = left; left_after = left_after; faults = faults; faults_after = faults_after }

abbrev pub writing : Option (List ℕ) → Option (List ℕ) → ℕ → ℕ → Writing
writing got got_after faults faults_after = record { got = got; got_after = got_after; faults = faults; faults_after = faults_after }

-- These bytes are the input: all that the source had, and not too many.
pub record IsInput (reading : Reading) (input : List ℕ) : Type 0 where
  pub within : length input ≤ MOST_INPUT
  pub taken : Consumes reading.left reading.left_after input
  pub ended : IsAtEnd reading.left_after

-- The source failed, before too many bytes were taken.
pub record FailsToRead (reading : Reading) : Type 0 where
  pub rose : Rose reading.faults reading.faults_after
  pub taken : Took reading.left reading.left_after (λ n. n ≤ MOST_INPUT)

abbrev pub IsTooLong : Reading → Type 0
IsTooLong reading = Took reading.left reading.left_after (λ n. MOST_INPUT < n)

abbrev pub Writes : Writing → List ℕ → Type 0
Writes writing bytes = Appends writing.got writing.got_after bytes

-- The sink failed behind a prefix of these bytes.
pub record FailsToWrite (writing : Writing) (bytes : List ℕ) : Type 0 where
  pub rose : Rose writing.faults writing.faults_after
  pub count : ℕ
  pub short : count < length bytes
  pub prefix : Writes writing (take count bytes)

-- These words were written as a line, or a prefix of it behind which the sink failed.
abbrev pub WritesLine : Writing → List ℕ → Type 0
WritesLine writing words = Writes writing (words ++ line_feed) ⊎ FailsToWrite writing (words ++ line_feed)
