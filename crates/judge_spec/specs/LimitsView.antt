-- The limits of a session as contracts see them. Source: this project's own.
use Rattle.std.specs.Prelude.{ℕ}
use Rattle.coin_facts.specs.declared.hash32.Hash32.{Hash32}

pub record LimitsView : Type 0 where
  -- the most that one list of spends may cost
  pub max_cost : ℕ
  -- the most that the bundles of the pool may cost together
  pub pool_cost : ℕ
  pub reward : ℕ
  pub singleton : Hash32
