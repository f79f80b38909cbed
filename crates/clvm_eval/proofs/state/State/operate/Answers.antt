use Rattle.clvm_eval.specs.declared.state.Step.TheVariants as step
use Rattle.clvm_eval.specs.Steps.{outcome_of}
use Rattle.clvm_eval.proofs.FormLaws.{advanced}
use Rattle.clvm_eval.proofs.state.State.operate.Goals as goal

pub give-requires : goal.give-requires
give-requires g c = c.in_ok-value.ensures.ok.there

pub returns-clause-ok : goal.returns-clause-ok
returns-clause-ok g c =
    let yields = c.in_ok-value.ensures.ok in
    advanced c.args.trees.now c.operator_value.new.trees c.args.self.now c.operator_value.new.self c.give.new.self c.in_ok-value.value.0 (outcome_of c.args.trees.now c.args.self.now (step.Open c.args.frame)) c.give.result c.give.ensures yields.same yields.cheaper yields.room
