-- What the conditions of a singleton's run make. Source: this project's own.
use Rattle.std.specs.Prelude.{◌==◌, ◌&&◌, List, filter, Bool, false}
use Rattle.coin_facts.specs.declared.coin.Coin.{Coin}
use Rattle.coin_facts.specs.IdLists.{is_same_id}
use Rattle.cond_spec.specs.declared.condition.Condition.{Condition}
use Rattle.cond_spec.specs.declared.condition.Condition.TheVariants.{CreateCoin}
use Rattle.cond_spec.specs.Acts.{of_spend, coin_made}
use Rattle.pool_spec.specs.Shape.{is_odd, is_again}

unfoldable pub makes_odd : Condition → Bool
makes_odd (CreateCoin puzzle_hash amount) = is_odd amount
makes_odd _ = false

unfoldable pub makes_again : Coin → Condition → Bool
makes_again coin (CreateCoin puzzle_hash amount) =
    is_odd amount && (is_same_id puzzle_hash coin.puzzle_hash && (amount == coin.amount))
makes_again coin _ = false

-- the coins of an odd amount that the conditions make, where this coin is spent
abbrev pub odd_made : Coin → List Condition → List Coin
odd_made coin conditions = filter (λ made. is_odd made.amount) (of_spend coin_made (record { coin = coin; conditions = conditions }))

-- whether there is exactly one, with the coin's puzzle hash and amount
abbrev pub is_made_again : Coin → List Condition → Bool
is_made_again coin conditions = is_again coin (odd_made coin conditions)
