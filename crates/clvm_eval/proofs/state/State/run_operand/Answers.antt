use Rattle.std.proofs.Common.{◌-◌, refl}
use Rattle.clvm_eval.specs.declared.state.State.{State}
use Rattle.clvm_eval.specs.declared.state.Step.TheVariants as step
use Rattle.clvm_eval.specs.Steps.{outcome_of, outcome_with}
use Rattle.clvm_eval.proofs.FormLaws.{start_of_two, unpaid_apply, two_known, applied_state, applied_same, applied_steps}
use Rattle.clvm_eval.proofs.state.State.run_operand.Goals as goal

pub returns-then-not-pay : goal.returns-then-not-pay
returns-then-not-pay c = unpaid_apply c.args.trees.now c.args.self.now c.args.frame c.requires.opened c.requires.ready c.requires.apply c.if-frame-ne2.false c.if-not-pay.ensures

pub evaluate-requires-clause-state : goal.evaluate-requires-clause-state
evaluate-requires-clause-state c =
    let start_is = start_of_two c.args.trees.now c.args.self.now c.args.frame c.len-start.result c.requires.opened c.if-frame-ne2.false c.len-start.ensures in
    applied_state c.args.trees.now c.args.self.now c.args.frame c.requires.opened c.requires.ready c.requires.apply _ c.index-program.result.now c.index-env.result.now (c.len-start.result - 2)
    c.if-frame-ne2.false start_is c.index-program.ensures c.index-env.ensures refl c.truncate.ensures.items c.if-not-pay.ensures

pub evaluate-requires-clause-program_known : goal.evaluate-requires-clause-program_known
evaluate-requires-clause-program_known c =
    let start_is = start_of_two c.args.trees.now c.args.self.now c.args.frame c.len-start.result c.requires.opened c.if-frame-ne2.false c.len-start.ensures in
    let after : State = record { frames = c.args.self.now.frames; operands = c.truncate.new.self; left = c.pay.new.left } in
    (two_known c.args.trees.now c.args.self.now c.args.frame c.requires.opened c.requires.ready c.requires.apply after c.index-program.result.now c.index-env.result.now (c.len-start.result - 2)
    c.if-frame-ne2.false start_is c.index-program.ensures c.index-env.ensures refl c.truncate.ensures.items c.if-not-pay.ensures).0

pub evaluate-requires-clause-env_known : goal.evaluate-requires-clause-env_known
evaluate-requires-clause-env_known c =
    let start_is = start_of_two c.args.trees.now c.args.self.now c.args.frame c.len-start.result c.requires.opened c.if-frame-ne2.false c.len-start.ensures in
    let after : State = record { frames = c.args.self.now.frames; operands = c.truncate.new.self; left = c.pay.new.left } in
    (two_known c.args.trees.now c.args.self.now c.args.frame c.requires.opened c.requires.ready c.requires.apply after c.index-program.result.now c.index-env.result.now (c.len-start.result - 2)
    c.if-frame-ne2.false start_is c.index-program.ensures c.index-env.ensures refl c.truncate.ensures.items c.if-not-pay.ensures).1.0

pub returns : goal.returns
returns c =
    let trees = c.args.trees.now in
    let before = c.args.self.now in
    let start_is = start_of_two c.args.trees.now c.args.self.now c.args.frame c.len-start.result c.requires.opened c.if-frame-ne2.false c.len-start.ensures in
    let program = c.index-program.result.now in
    let env = c.index-env.result.now in
    let after : State = record { frames = before.frames; operands = c.truncate.new.self; left = c.pay.new.left } in
    let same = applied_same trees before c.args.frame c.requires.opened c.requires.ready c.requires.apply after program env (c.len-start.result - 2)
    c.if-frame-ne2.false start_is c.index-program.ensures c.index-env.ensures refl c.truncate.ensures.items c.if-not-pay.ensures in
    applied_steps trees before after c.evaluate.new.self (outcome_of trees before (step.Open c.args.frame)) (outcome_with trees after program.0 env.0) c.evaluate.result c.if-not-pay.ensures same c.evaluate.ensures
