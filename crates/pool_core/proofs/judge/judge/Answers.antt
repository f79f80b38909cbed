use Rattle.std.proofs.Common.{◌≡◌, ℕ, ◌-◌, Option, None, [], ap, ap₂, sym, ◌∙◌}
use Rattle.std.proofs.lemmas.Option.{MatchOption-at_some}
use Rattle.judge_spec.specs.declared.rule.Rule.TheVariants.{UnknownCoin}
use Rattle.pool_spec.specs.FirstJudgement.{Verdict, Fine, Broken, unless_broken, spent_twice, unknown_coin, fee_of}
use Rattle.coin_facts.specs.IdLists.{repeat_behind}
use Rattle.pool_core.specs.SpendPayments.{ArePayments}
use Rattle.pool_core.specs.PaymentSums.{paid_ids, paid_amounts}
use Rattle.pool_core.proofs.JudgeLaws.{judgement-by_unknown, unknown_coin-found, paid_amounts-created}
use Rattle.pool_core.proofs.judge.judge.Goals as goal

pub returns-in-Some-3-clause-err : goal.returns-in-Some-3-clause-err
returns-in-Some-3-clause-err c =
    let chain = c.args.store.now in
    let spends = c.args.spends.now in
    let once : None ≡ spent_twice spends = sym c.in_default.is ∙ c.in_ok-place.ensures.value ∙ ap (repeat_behind [] 0) (c.deref.ensures.value ∙ c.in_ok-spent.ensures) in
    let are : ArePayments spends c.in-Some-2.payments.items = MatchOption-at_some _ _ _ c.in-Some-2.is c.in_ok-payments.ensures in
    let made : c.deref-5.result.now ≡ paid_ids c.in-Some-2.payments.items = c.deref-5.ensures.value ∙ c.in_ok-created.ensures ∙ ap paid_ids c.deref-3.ensures.value in
    let unknown : c.in_ok-place-2.field-0 ≡ unknown_coin chain spends = unknown_coin-found chain spends _ _ _ _ are (c.deref-4.ensures.value ∙ c.in_ok-spent.ensures) made c.in_ok-place-2.ensures.value in
    let by_unknown = judgement-by_unknown chain spends c.args.limit c.in_ok-cost.cost c.in_ok-place-2.field-0 once c.in_ok-cost.ensures.ok unknown in
    let verdict : Option ℕ → Verdict = λ o. unless_broken UnknownCoin o (Fine c.in_ok-cost.cost (fee_of spends)) in
    by_unknown ∙ ap verdict c.in-Some-3.is ∙ ap (λ rule. Broken rule c.in-Some-3.place) (sym c.number-in-Some-3.ensures)

pub returns-clause-ok : goal.returns-clause-ok
returns-clause-ok c =
    let chain = c.args.store.now in
    let spends = c.args.spends.now in
    let once : None ≡ spent_twice spends = sym c.in_default.is ∙ c.in_ok-place.ensures.value ∙ ap (repeat_behind [] 0) (c.deref.ensures.value ∙ c.in_ok-spent.ensures) in
    let are : ArePayments spends c.in-Some-2.payments.items = MatchOption-at_some _ _ _ c.in-Some-2.is c.in_ok-payments.ensures in
    let made : c.deref-5.result.now ≡ paid_ids c.in-Some-2.payments.items = c.deref-5.ensures.value ∙ c.in_ok-created.ensures ∙ ap paid_ids c.deref-3.ensures.value in
    let unknown : c.in_ok-place-2.field-0 ≡ unknown_coin chain spends = unknown_coin-found chain spends _ _ _ _ are (c.deref-4.ensures.value ∙ c.in_ok-spent.ensures) made c.in_ok-place-2.ensures.value in
    let by_unknown = judgement-by_unknown chain spends c.args.limit c.in_ok-cost.cost c.in_ok-place-2.field-0 once c.in_ok-cost.ensures.ok unknown in
    let verdict : Option ℕ → Verdict = λ o. unless_broken UnknownCoin o (Fine c.in_ok-cost.cost (fee_of spends)) in
    let made_amount = c.created_amount.ensures ∙ ap paid_amounts c.deref-6.ensures.value ∙ paid_amounts-created spends _ are in
    let fee : c.saturating_sub-fee.result ≡ fee_of spends = c.saturating_sub-fee.ensures ∙ ap₂ ◌-◌ c.spent_amount.ensures.value made_amount in
    by_unknown ∙ ap verdict c.in_default-3.is ∙ ap (Fine c.in_ok-cost.cost) (sym fee)
