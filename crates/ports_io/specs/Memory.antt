-- Objects in memory as contracts see them, and what one call makes of them. This project's own.
use Rattle.std.specs.Prelude.{ℕ, ◌+◌, ◌^◌, List, ◌++◌, drop, Option, Some, None, option_and_then, nat_lt, if◌then◌else◌, IsSomeAnd, Contains}
use Rattle.ports_io.specs.Outside.{counted}

-- The calls of an object, numbered from 0: the number of the next one, None once each number of a u64 is used,
-- and the numbers of those that fail.
pub record Calls : Type 0 where
  pub next : Option ℕ
  pub failing : List ℕ

abbrev pub all_calls : List ℕ → Calls
all_calls failing = record { next = Some 0; failing = failing }

abbrev pub FailsNext : Calls → Type 0
FailsNext calls = IsSomeAnd calls.next (Contains calls.failing)

abbrev pub number_after : ℕ → Option ℕ
number_after n = if nat_lt (n + 1) (2 ^ 64) then Some (n + 1) else None

abbrev pub after_call : Calls → Calls
after_call calls = record { next = option_and_then number_after calls.next; failing = calls.failing }

-- the bytes that are left, the most bytes that one read gives, and how often it has failed
pub record SourceState : Type 0 where
  pub left : List ℕ
  pub piece : ℕ
  pub calls : Calls
  pub faults : ℕ

-- A read took n bytes.
abbrev pub source_after : ℕ → SourceState → SourceState
source_after n source = record { left = drop n source.left; piece = source.piece; calls = after_call source.calls; faults = source.faults }

abbrev pub source_after_fault : SourceState → SourceState
source_after_fault source = record { left = source.left; piece = source.piece; calls = after_call source.calls; faults = counted source.faults }

-- the bytes that it got, and how often it has failed
pub record SinkState : Type 0 where
  pub got : List ℕ
  pub calls : Calls
  pub faults : ℕ

-- A write appended these bytes.
abbrev pub sink_after : List ℕ → SinkState → SinkState
sink_after bytes sink = record { got = sink.got ++ bytes; calls = after_call sink.calls; faults = sink.faults }

abbrev pub sink_after_fault : SinkState → SinkState
sink_after_fault sink = record { got = sink.got; calls = after_call sink.calls; faults = counted sink.faults }
