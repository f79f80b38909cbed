-- A spend as contracts see it: the coin, and the bytes of its puzzle and of its solution. Source: Chia documentation of
-- the coin set.
use Rattle.std.specs.Prelude.{ℕ, List}
use Rattle.coin_facts.specs.declared.coin.Coin.{Coin}

pub record SpendView : Type 0 where
  pub coin : Coin
  pub puzzle : List ℕ
  pub solution : List ℕ
