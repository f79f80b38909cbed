use Rattle.std.proofs.Common.{◌≡◌, ◌-◌, ◌≤◌, ◌<◌, ap, ◌∙◌, arith}
use Rattle.std.proofs.lemmas.Bool.Decides.{nat_tests}
use Rattle.cond_spec.specs.Conditions.{cost_of_conditions}
use Rattle.judge_spec.specs.declared.limits.TheConstants.{GREATEST_MAX_COST}
use Rattle.singleton_forward.proofs.RunLaws.{conditions-within, run-kept, run-spent}
use Rattle.singleton_forward.proofs.run.is_run_within.Goals as goal

pub overflow_sub-result : goal.overflow_sub-result
overflow_sub-result c =
    let facts = c.args.facts.now in
    let listed : c.conditions_cost.result ≡ cost_of_conditions facts.conditions = c.conditions_cost.ensures ∙ ap cost_of_conditions c.conditions.ensures in
    omega (arith, listed, c.cost.ensures, conditions-within GREATEST_MAX_COST facts.spend facts c.requires)

pub returns-clause-kept : goal.returns-clause-kept
returns-clause-kept c e =
    let facts = c.args.facts.now in
    let listed : c.conditions_cost.result ≡ cost_of_conditions facts.conditions = c.conditions_cost.ensures ∙ ap cost_of_conditions c.conditions.ensures in
    let small : c.cost.result - c.conditions_cost.result ≤ c.args.limit = grind (arith, nat_tests, e) in
    run-kept c.args.limit GREATEST_MAX_COST facts.spend facts c.requires (omega (arith, listed, c.cost.ensures, small))

pub returns-clause-spent : goal.returns-clause-spent
returns-clause-spent c e =
    let facts = c.args.facts.now in
    let listed : c.conditions_cost.result ≡ cost_of_conditions facts.conditions = c.conditions_cost.ensures ∙ ap cost_of_conditions c.conditions.ensures in
    let large : c.args.limit < c.cost.result - c.conditions_cost.result = grind (arith, nat_tests, e) in
    run-spent c.args.limit GREATEST_MAX_COST facts.spend facts c.requires (omega (arith, listed, c.cost.ensures, large))
