-- A bundle of the pool as contracts see it, and what its type keeps. Source: this project's own.
use Rattle.std.specs.Prelude.{◌≡◌, ℕ, ◌<◌, ◌≤◌, ◌^◌, List, length}
use Rattle.block_spec.specs.declared.bundle.Bundle.{Bundle}
use Rattle.judge_spec.specs.declared.class.Class.{Class}
use Rattle.judge_spec.specs.Facts.{Facts}
use Rattle.pool_spec.specs.Prices.{Priced}

abbrev pub item_seen : Bundle → List Facts → List Class → (fee cost : ℕ) → Priced
item_seen bundle fit classes fee cost = record { bundle = bundle; fit = fit; classes = classes; fee = fee; cost = cost }

-- There is one class a spend, the fee fits 96 bits, and the cost is positive.
pub record IsSized (fit : List Facts) (classes : List Class) (fee cost : ℕ) : Type 0 where
  pub place_by_place : length classes ≡ length fit
  pub small : fee < 2 ^ 96
  pub positive : 1 ≤ cost
