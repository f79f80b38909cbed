-- Created amounts, spend by spend.
use Rattle.std.proofs.Common.{◌≡◌, ℕ, ◌+◌, List, [], ◌∷◌, ◌++◌, map, refl, ap, sym, ◌∙◌, arith}
use Rattle.std.specs.List.{sum_by, flat_map}
use Rattle.std.proofs.lemmas.List.Sums.{sum_by-append, sum_by-cons}
use Rattle.coin_facts.specs.declared.coin.Coin.{Coin}
use Rattle.cond_spec.specs.declared.condition.Condition.{Condition}
use Rattle.cond_spec.specs.declared.condition.Condition.TheVariants.{CreateCoin}
use Rattle.cond_spec.specs.Acts.{amounts, coin_made, of_spend, of_list, created_amounts}
use Rattle.judge_spec.specs.Facts.{Facts, acts_of}
use Rattle.block_judge.specs.Amounts.{created_amount, created_by}

made-amount : (coin : Coin) (condition : Condition) → created_amount condition ≡ amounts (coin_made coin condition)
made-amount coin (CreateCoin hash amount) = omega arith
made-amount coin _ = refl

made-amounts : (coin : Coin) (conditions : List Condition) → sum_by created_amount conditions ≡ amounts (flat_map (coin_made coin) conditions)
made-amounts coin [] = refl
made-amounts coin (condition ∷ conditions) =
    let one = made-amount coin condition in
    let rest = made-amounts coin conditions in
    let all = sum_by-cons created_amount condition conditions in
    let both = sum_by-append (λ c. c.amount) (coin_made coin condition) (flat_map (coin_made coin) conditions) in
    omega arith

pub amounts_by_spend : (list : List Facts) → sum_by created_by list ≡ created_amounts (map acts_of list)
amounts_by_spend [] = refl
amounts_by_spend (facts ∷ list) =
    let one = made-amounts facts.spend.coin facts.conditions in
    let rest = amounts_by_spend list in
    let all = sum_by-cons created_by facts list in
    let both = sum_by-append (λ c. c.amount) (of_spend coin_made (acts_of facts)) (of_list coin_made (map acts_of list)) in
    omega arith
