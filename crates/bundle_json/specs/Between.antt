-- A number between two, both included.
use Rattle.std.specs.Prelude.{ℕ, ◌≤◌}

abbrev pub IsBetween : (least most n : ℕ) → Type 0
IsBetween least most n = (least ≤ n) × (n ≤ most)
