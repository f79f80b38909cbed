-- What the pool reads of a spend. Source: this project's own.
use Rattle.std.specs.Prelude.{◌≡◌, Bool, true, false, List, map, Option, option_map, MatchOption}
use Rattle.std.specs.List.{list_all}
use Rattle.clvm_spec.specs.Tree.{Tree}
use Rattle.clvm_spec.specs.Hashing.{tree_hash}
use Rattle.coin_facts.specs.declared.coin.Coin.{Coin}
use Rattle.coin_facts.specs.CoinId.{coin_id}
use Rattle.block_spec.specs.declared.spend.Spend.{Spend}
use Rattle.clvm_spec.specs.Spelled.{spelled_tree}
use Rattle.pool_spec.specs.FirstJudgement.{coins_made_by}
use Rattle.pool_spec.specs.Payment.{pays}
use Rattle.pool_core.specs.declared.payment.Payment.{Payment}
use Rattle.pool_core.specs.Payments.{quoted_coins}

abbrev pub payment_at : Coin → Tree → Option Payment
payment_at coin puzzle = option_map (λ coins. record { puzzle_hash = record { bytes = tree_hash puzzle }; created = coins }) (quoted_coins (coin_id coin) puzzle)

-- whether a spend's puzzle pays
abbrev pub is_paying : Spend → Bool
is_paying spend = pays (spelled_tree spend.puzzle)

-- the payment of a spend whose puzzle pays
abbrev pub payment_of : Spend → Payment
payment_of spend = record { puzzle_hash = record { bytes = tree_hash (spelled_tree spend.puzzle) }; created = coins_made_by spend }

-- what is found of a spend: its payment, where it pays
abbrev pub IsPayment : Spend → Option Payment → Type 0
IsPayment spend found = MatchOption found (is_paying spend ≡ false) (λ payment. (is_paying spend ≡ true) × (payment ≡ payment_of spend))

-- the spends all pay, and these are their payments
pub record ArePayments (spends : List Spend) (payments : List Payment) : Type 0 where
  pub all_pay : list_all is_paying spends ≡ true
  pub each : payments ≡ map payment_of spends
