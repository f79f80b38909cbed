use Rattle.std.proofs.Common.{Ok, sym, ap, ◌∙◌, subst}
use Rattle.std.proofs.lemmas.Result.{err_from_is_err_and}
use Rattle.judge_spec.specs.declared.limits.TheConstants.{GREATEST_MAX_COST}
use Rattle.judge_spec.proofs.FactLaws.{facts-keep}
use Rattle.spend_run.specs.Breaches.{IsBreach}
use Rattle.spend_run.specs.Found.{facts_seen, IsFound}
use Rattle.spend_run.proofs.run.facts.Goals as goal

pub invariant_of-result : goal.invariant_of-result
invariant_of-result c =
    let reading = c.in_ok-cost.field-0 in
    let found = facts-keep c.args.limit GREATEST_MAX_COST c.args.spend.now _ c.requires.limit (c.in_ok-cost.ensures.ok ∙ c.in_ok-check_own_rules.ensures.ok reading.cost) in
    subst (λ s. IsFound s reading.cost reading.conditions) (sym c.in_ok-spend.ensures) found

pub returns-clause-ok : goal.returns-clause-ok
returns-clause-ok c =
    let reading = c.in_ok-cost.field-0 in
    c.in_ok-cost.ensures.ok ∙ c.in_ok-check_own_rules.ensures.ok reading.cost ∙ ap (λ s. Ok (facts_seen s reading.cost reading.conditions)) (sym c.in_ok-spend.ensures)

pub returns-in_err-check_own_rules-clause-err : goal.returns-in_err-check_own_rules-clause-err
returns-in_err-check_own_rules-clause-err c =
    let reading = c.in_ok-cost.field-0 in
    let p = err_from_is_err_and c.from_residual-in_err-check_own_rules.result c.from_residual-in_err-check_own_rules.ensures.1 in
    rw (p.1, p.2) (subst (λ found. IsBreach found c.in_err-check_own_rules.field-0.0) (sym c.in_ok-cost.ensures.ok) (c.in_err-check_own_rules.ensures.err reading.cost))
