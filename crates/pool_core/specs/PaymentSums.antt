-- What payments make together. Source: this project's own.
use Rattle.std.specs.Prelude.{ℕ, ◌&&◌, Bool, not, List, [], map, nat_le, is_none}
use Rattle.std.specs.List.{sum_by, flat_map, list_all}
use Rattle.coin_facts.specs.declared.hash32.Hash32.{Hash32}
use Rattle.coin_facts.specs.declared.coin.Coin.{Coin}
use Rattle.coin_facts.specs.CoinId.{coin_id}
use Rattle.block_spec.specs.declared.spend.Spend.{Spend}
use Rattle.chain_spec.specs.Chain.{Chain, is_in_chain, ledger_of}
use Rattle.pool_spec.specs.FirstJudgement.{spent_amounts}
use Rattle.coin_facts.specs.IdLists.{repeat_behind}
use Rattle.pool_core.specs.declared.payment.Payment.{Payment}

abbrev pub coins_of_payments : List Payment → List Coin
coins_of_payments payments = flat_map (λ payment. payment.created) payments

abbrev pub paid_amounts : List Payment → ℕ
paid_amounts payments = sum_by (λ coin. coin.amount) (coins_of_payments payments)

abbrev pub paid_ids : List Payment → List Hash32
paid_ids payments = map coin_id (coins_of_payments payments)

-- They make new coins, each once, that are worth at most what is spent.
abbrev pub pays_out : Chain → List Spend → List Payment → Bool
pays_out chain spends payments =
    is_none (repeat_behind [] 0 (paid_ids payments))
    && nat_le (paid_amounts payments) (spent_amounts spends)
    && list_all (λ id. not (is_in_chain (ledger_of chain) id)) (paid_ids payments)
