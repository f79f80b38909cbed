use Rattle.std.proofs.Common.{◌≡◌, ℕ, None, Some, ap, ap₂, sym, ◌∙◌, subst}
use Rattle.std.proofs.lemmas.Result.{err_from_is_err_and}
use Rattle.judge_spec.specs.Judgement.{Verdict, Fine, Broken}
use Rattle.pool_spec.specs.FirstJudgement.{payment_verdict, spent_coin, unless_spent}
use Rattle.pool_core.specs.Verdicts.{IsRefusal}
use Rattle.pool_core.proofs.PaymentVerdicts.{judgement-of_payment, refused-before}
use Rattle.pool_core.proofs.judge.judge_payment.Goals as goal

pub returns-in_err-fine-clause-err : goal.returns-in_err-fine-clause-err
returns-in_err-fine-clause-err c =
    let chain = c.args.store.now in
    let bundle = c.args.bundle.now in
    let limits = c.args.limits.now in
    let p = err_from_is_err_and c.from_residual.result c.from_residual.ensures.1 in
    let fault = c.in_err-fine.field-0.0 in
    let same = ap₂ (payment_verdict chain) c.as_slice-spends.ensures.value (ap (λ l. l.max_cost) c.limits.view_is) in
    let refused : IsRefusal (payment_verdict chain bundle.spends limits.max_cost) fault = subst (λ verdict. IsRefusal verdict fault) same c.in_err-fine.ensures.err in
    let law = judgement-of_payment limits chain bundle c.requires.payment in
    rw (p.1, p.2) (subst (λ verdict. IsRefusal verdict fault) (sym law) (refused-before (spent_coin chain bundle.spends) (payment_verdict chain bundle.spends limits.max_cost) fault refused))

pub returns-in-Some-clause-err : goal.returns-in-Some-clause-err
returns-in-Some-clause-err c =
    let chain = c.args.store.now in
    let bundle = c.args.bundle.now in
    let spends = c.as_slice-spends.ensures.value in
    let law = judgement-of_payment c.args.limits.now chain bundle c.requires.payment in
    let verdict = ap₂ (payment_verdict chain) (sym spends) (sym (ap (λ l. l.max_cost) c.limits.view_is)) ∙ c.in_ok-fine.ensures.ok in
    let spent : spent_coin chain bundle.spends ≡ Some c.in-Some.place = ap (spent_coin chain) (sym spends) ∙ sym c.in-Some.ensures.value in
    law ∙ (λ j. unless_spent (spent j) (verdict j)) ∙ ap (λ rule. Broken rule c.in-Some.place) (sym c.number.ensures)

pub returns-in-None-clause-ok : goal.returns-in-None-clause-ok
returns-in-None-clause-ok c =
    let chain = c.args.store.now in
    let bundle = c.args.bundle.now in
    let spends = c.as_slice-spends.ensures.value in
    let law = judgement-of_payment c.args.limits.now chain bundle c.requires.payment in
    let verdict = ap₂ (payment_verdict chain) (sym spends) (sym (ap (λ l. l.max_cost) c.limits.view_is)) ∙ c.in_ok-fine.ensures.ok in
    let spent : spent_coin chain bundle.spends ≡ None = ap (spent_coin chain) (sym spends) ∙ sym c.in-None.ensures.value in
    law ∙ (λ j. unless_spent (spent j) (verdict j))
