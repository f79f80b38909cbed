-- The verdict on spends, from what is found of them.
use Rattle.std.proofs.Common.{◌≡◌, ℕ, ◌+◌, Bool, ◌||◌, not, cond, Option, Some, None, List, [], ◌∷◌, ◌++◌, map, nat_lt, refl, ap, ap₂, sym, ◌∙◌}
use Rattle.std.specs.Prelude.{position}
use Rattle.std.specs.List.{sum_by, prefix_len}
use Rattle.std.proofs.lemmas.List.{length-map}
use Rattle.coin_facts.specs.declared.hash32.Hash32.{Hash32}
use Rattle.coin_facts.specs.CoinId.{coin_id}
use Rattle.block_spec.specs.declared.spend.Spend.{Spend}
use Rattle.chain_spec.specs.Chain.{Chain, is_in_chain, ledger_of}
use Rattle.judge_spec.specs.declared.rule.Rule.TheVariants.{SpentTwice, UnknownCoin}
use Rattle.pool_spec.specs.FirstJudgement.{Fine, unless_broken, payment_verdict, spent_twice, spend_by_spend, unknown_coin, coins_made_by, created_coins, created_ids, created_amounts, spent_ids, cost_of, fee_of}
use Rattle.coin_facts.specs.IdLists.{is_among}
use Rattle.pool_core.specs.declared.payment.Payment.{Payment}
use Rattle.pool_core.specs.SpendPayments.{payment_of, ArePayments}
use Rattle.pool_core.specs.PaymentSums.{coins_of_payments, paid_ids, paid_amounts}
use Rattle.pool_core.specs.Costs.{HasCost}

coins_of_payments-created_coins : (spends : List Spend) → coins_of_payments (map payment_of spends) ≡ created_coins spends
coins_of_payments-created_coins [] = refl
coins_of_payments-created_coins (spend ∷ spends) = ap (λ coins. coins_made_by spend ++ coins) (coins_of_payments-created_coins spends)

pub paid_ids-created : (spends : List Spend) (payments : List Payment) → ArePayments spends payments → paid_ids payments ≡ created_ids spends
paid_ids-created spends payments are = ap paid_ids are.each ∙ ap (map coin_id) (coins_of_payments-created_coins spends)

pub paid_amounts-created : (spends : List Spend) (payments : List Payment) → ArePayments spends payments → paid_amounts payments ≡ created_amounts spends
paid_amounts-created spends payments are = ap paid_amounts are.each ∙ ap (sum_by (λ coin. coin.amount)) (coins_of_payments-created_coins spends)

prefix_len-map : {A B : Type 0} (p : B → Bool) (f : A → B) (xs : List A) → prefix_len p (map f xs) ≡ prefix_len (λ x. p (f x)) xs
prefix_len-map p f [] = refl
prefix_len-map p f (x ∷ xs) = ap (λ n. cond (p (f x)) (1 + n) 0) (prefix_len-map p f xs)

pub position-map : {A B : Type 0} (p : B → Bool) (f : A → B) (xs : List A) → position p (map f xs) ≡ position (λ x. p (f x)) xs
position-map p f xs =
    ap₂ (λ n m. cond (nat_lt n m) (Some n) None) (prefix_len-map (λ y. not (p y)) f xs) (length-map xs f)

-- the unknown coin, by the ids of the coins
pub unknown_coin-by_ids : (chain : Chain) (spends : List Spend) (ids : List Hash32) → ids ≡ created_ids spends → position (λ id. not (is_in_chain (ledger_of chain) id || is_among ids id)) (spent_ids spends) ≡ unknown_coin chain spends
unknown_coin-by_ids chain spends ids e =
    ap (λ made. position (λ id. not (is_in_chain (ledger_of chain) id || is_among made id)) (spent_ids spends)) e
    ∙ position-map (λ id. not (is_in_chain (ledger_of chain) id || is_among (created_ids spends) id)) (λ spend. coin_id spend.coin) spends

-- Where the first rules hold, the verdict is by rule 11.
pub judgement-by_unknown : (chain : Chain) (spends : List Spend) (limit cost : ℕ) (unknown : Option ℕ) → None ≡ spent_twice spends → HasCost limit spends cost → unknown ≡ unknown_coin chain spends → payment_verdict chain spends limit ≡ unless_broken UnknownCoin unknown (Fine cost (fee_of spends))
judgement-by_unknown chain spends limit cost unknown once has is =
    ap (λ twice. unless_broken SpentTwice twice (spend_by_spend limit [] spends (unless_broken UnknownCoin (unknown_coin chain spends) (Fine (cost_of spends) (fee_of spends))))) (sym once)
    ∙ has.goes_on (unless_broken UnknownCoin (unknown_coin chain spends) (Fine (cost_of spends) (fee_of spends)))
    ∙ ap₂ (λ o n. unless_broken UnknownCoin o (Fine n (fee_of spends))) (sym is) (sym has.is)

-- The unknown coin is found among the ids of what is spent and made.
pub unknown_coin-found : (chain : Chain) (spends : List Spend) (payments : List Payment) (spent made : List Hash32) (unknown : Option ℕ) → ArePayments spends payments → spent ≡ spent_ids spends → made ≡ paid_ids payments → unknown ≡ position (λ id. not (is_in_chain (ledger_of chain) id || is_among made id)) spent → unknown ≡ unknown_coin chain spends
unknown_coin-found chain spends payments spent made unknown are spent_is made_is found =
    found
    ∙ ap (position (λ id. not (is_in_chain (ledger_of chain) id || is_among made id))) spent_is
    ∙ unknown_coin-by_ids chain spends made (made_is ∙ paid_ids-created spends payments are)
