-- When the time locks of conditions hold. Source: Chia documentation of conditions; that a block's locks look at the peak
-- that it builds on is this project's own.
use Rattle.std.specs.Prelude.{ℕ, pos, ◌+ℤ◌, int_le, Bool, true, not, Option, Some, None, option_map}
use Rattle.chain_spec.specs.declared.chain.Record.{Record}
use Rattle.chain_spec.specs.declared.chain.Peak.{Peak}
use Rattle.chain_spec.specs.Chain.{Ledger, look_up}
use Rattle.cond_spec.specs.Locks.{Clock, Seconds, Height, Start, Birth, Zero, Lock}

abbrev pub now : Clock → Peak → ℕ
now Seconds peak = peak.seconds
now Height peak = peak.height

abbrev pub born : Clock → Record → ℕ
born Seconds found = found.seconds
born Height found = found.height

-- from when a lock counts, where its coin has a record
abbrev pub counts_from : Ledger → Clock → Start → Option ℕ
counts_from ledger clock Zero = Some 0
counts_from ledger clock (Birth id) = option_map (born clock) (look_up ledger id)

-- The moment is a whole number, also below zero.
abbrev pub is_past : Ledger → Lock → ℕ → Bool
is_past ledger lock from = int_le (pos from +ℤ lock.moment) (pos (now lock.clock ledger.peak))

-- A lock on a coin without a record holds: rule 11 or 13 came first.
abbrev pub holds_from : (ℕ → Bool) → Option ℕ → Bool
holds_from test (Some from) = test from
holds_from test None = true

-- 80 to 83
abbrev pub is_reached : Ledger → Lock → Bool
is_reached ledger lock = holds_from (is_past ledger lock) (counts_from ledger lock.clock lock.start)

-- 84 to 87 hold where the same comparison of 80 to 83 doesn't.
abbrev pub is_ahead : Ledger → Lock → Bool
is_ahead ledger lock = holds_from (λ from. not (is_past ledger lock from)) (counts_from ledger lock.clock lock.start)
