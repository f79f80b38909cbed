-- What is used of fuel, and when what is left suffices. This project's own.
use Rattle.std.specs.Prelude.{◌≡◌, ℕ, ◌-◌, Bool, nat_lt, if◌then◌else◌, Option, Some, None}
use Rattle.clvm_spec.specs.declared.fuel.Fuel.{Fuel}
use Rattle.clvm_spec.specs.declared.fuel.Which.{Which}
use Rattle.clvm_spec.specs.declared.fuel.Which.TheVariants.{Cost, Pairs, Bytes}

-- what an operator, or a run, uses
pub record Spending : Type 0 where
  pub cost : ℕ
  pub pairs : ℕ
  pub bytes : ℕ

-- whether more is needed than is left: a need equal to what is left is met
abbrev pub exceeds : (need left : ℕ) → Bool
exceeds need left = nat_lt left need

-- the first count that doesn't suffice: the cost, then the pairs, then the bytes
abbrev pub lack : Spending → Fuel → Option Which
lack spending left =
    if exceeds spending.cost left.cost then Some Cost
    else if exceeds spending.pairs left.pairs then Some Pairs
    else if exceeds spending.bytes left.bytes then Some Bytes
    else None

abbrev pub Suffices : Fuel → Spending → Type 0
Suffices left spending = lack spending left ≡ None

-- what is left once a cost is paid
abbrev pub paid : ℕ → Fuel → Fuel
paid cost fuel = record fuel { cost = fuel.cost - cost }

-- what is left once all that is used is paid
abbrev pub fuel_less : Spending → Fuel → Fuel
fuel_less spending fuel = record (paid spending.cost fuel) { pairs = fuel.pairs - spending.pairs; bytes = fuel.bytes - spending.bytes }
