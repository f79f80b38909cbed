-- The verdict that the pool's body works out so far, on payments alone: they break none of the rules but those below. Source:
-- this project's own. What stands here goes when the pool judges all conditions.
use Rattle.std.specs.Prelude.{ℕ, ◌+◌, ◌*◌, ◌-◌, ◌||◌, List, [], ◌∷◌, ◌++◌, length, nat_lt, map, Bool, not, Option, option_and_then, option_map, unwrap_or, position, if◌then◌else◌}
use Rattle.std.specs.List.{sum_by, flat_map}
use Rattle.coin_facts.specs.declared.hash32.Hash32.{Hash32}
use Rattle.coin_facts.specs.declared.coin.Coin.{Coin}
use Rattle.coin_facts.specs.CoinId.{coin_id}
use Rattle.coin_facts.specs.IdLists.{is_among}
use Rattle.block_spec.specs.declared.spend.Spend.{Spend}
use Rattle.clvm_spec.specs.Spelled.{spelled_tree}
use Rattle.block_spec.specs.Added.{generator_bytes}
use Rattle.chain_spec.specs.Chain.{Chain, look_up, is_in_chain, ledger_of}
use Rattle.judge_spec.specs.declared.costs.TheConstants.{BYTE_COST}
use Rattle.judge_spec.specs.declared.rule.Rule.TheVariants.{SpentTwice, WrongPuzzleHash, TooCostly, UnknownCoin, SpentInChain}
use Rattle.judge_spec.specs.Rules.{number_of}
use Rattle.judge_spec.specs.Checks.{is_spent}
pub use Rattle.judge_spec.specs.Facts.{has_its_puzzle}
pub use Rattle.judge_spec.specs.Judgement.{Verdict, Fine, Broken, unless_broken, spent_twice}
use Rattle.pool_spec.specs.FirstRuns.{Done, run_of}
use Rattle.pool_spec.specs.FirstConditions.{Condition, CreateCoin, conditions_of, cost_of_conditions}

-- what a spend's bytes say by themselves: the cost of its run and its conditions, and the conditions
pub record Facts : Type 0 where
  pub cost : ℕ
  pub conditions : List Condition

abbrev pub facts_of_run : Done → Option Facts
facts_of_run run = option_map (λ conditions. record { cost = run.cost + cost_of_conditions conditions; conditions = conditions }) (conditions_of run.value)

abbrev pub facts_of : Spend → Option Facts
facts_of spend = option_and_then facts_of_run (run_of (spelled_tree spend.puzzle) (spelled_tree spend.solution))

-- a spend whose run isn't done, or whose conditions aren't read, makes nothing
abbrev pub facts_or_none : Spend → Facts
facts_or_none spend = unwrap_or (facts_of spend) (record { cost = 0; conditions = [] })

-- The coin that a condition makes has the id of the spent coin as its parent.
abbrev pub coin_of : Hash32 → Condition → Coin
coin_of parent (CreateCoin hash amount) = record { parent = parent; puzzle_hash = hash; amount = amount }

abbrev pub coins_made_by : Spend → List Coin
coins_made_by spend = map (coin_of (coin_id spend.coin)) (facts_or_none spend).conditions

abbrev pub created_coins : List Spend → List Coin
created_coins spends = flat_map coins_made_by spends

abbrev pub spent_amounts : List Spend → ℕ
spent_amounts spends = sum_by (λ spend. spend.coin.amount) spends

abbrev pub created_amounts : List Spend → ℕ
created_amounts spends = sum_by (λ coin. coin.amount) (created_coins spends)

-- 12,000 for each byte of the generator, and the runs and their conditions
abbrev pub cost_of : List Spend → ℕ
cost_of spends = BYTE_COST * generator_bytes spends + sum_by (λ spend. (facts_or_none spend).cost) spends

-- the spent amounts less the created ones
abbrev pub fee_of : List Spend → ℕ
fee_of spends = spent_amounts spends - created_amounts spends

abbrev pub spent_ids : List Spend → List Hash32
spent_ids spends = map (λ spend. coin_id spend.coin) spends

abbrev pub created_ids : List Spend → List Hash32
created_ids spends = map coin_id (created_coins spends)

-- Rule 11: the coin is neither in the chain nor created by the list.
abbrev pub is_there : Chain → List Spend → Spend → Bool
is_there chain spends spend = is_in_chain (ledger_of chain) (coin_id spend.coin) || is_among (created_ids spends) (coin_id spend.coin)

abbrev pub unknown_coin : Chain → List Spend → Option ℕ
unknown_coin chain spends = position (λ spend. not (is_there chain spends spend)) spends

-- Rules 3 and 5, spend by spend behind earlier ones: rule 3 before rule 5, which is broken where the cost of the list up
-- to this spend and with it is over the limit. A run is a part of that cost.
abbrev pub spend_by_spend : ℕ → List Spend → List Spend → Verdict → Verdict
spend_by_spend limit earlier [] verdict = verdict
spend_by_spend limit earlier (spend ∷ spends) verdict =
    if has_its_puzzle spend
    then (if nat_lt limit (cost_of (earlier ++ spend ∷ [])) then Broken (number_of TooCostly) (length earlier) else spend_by_spend limit (earlier ++ spend ∷ []) spends verdict)
    else Broken (number_of WrongPuzzleHash) (length earlier)

-- the verdict but for rule 12; the limit is the most that the list may cost
abbrev pub payment_verdict : Chain → List Spend → ℕ → Verdict
payment_verdict chain spends limit =
    unless_broken SpentTwice (spent_twice spends)
    (spend_by_spend limit [] spends
    (unless_broken UnknownCoin (unknown_coin chain spends) (Fine (cost_of spends) (fee_of spends))))

-- Rule 12: the coin is spent in the chain.
abbrev pub spent_coin : Chain → List Spend → Option ℕ
spent_coin chain spends = position (λ spend. is_spent (look_up (ledger_of chain) (coin_id spend.coin))) spends

-- The chain is asked for it behind all others.
abbrev pub unless_spent : Option ℕ → Verdict → Verdict
unless_spent spent (Fine cost fee) = unless_broken SpentInChain spent (Fine cost fee)
unless_spent spent (Broken rule place) = Broken rule place
