use Rattle.std.proofs.Common.{◌+◌, ◌-◌, refl, arith}
use Rattle.clvm_eval.proofs.StateLaws.{frame_popped, value_given}
use Rattle.clvm_eval.proofs.state.State.give.Goals as goal

pub overflow_sub-place : goal.overflow_sub-place
overflow_sub-place c =
    let popped = frame_popped c.args._trees.now c.args.self.now c.pop.new.self.items c.in-Some.frame c.requires.state c.in-Some.ensures.items in
    omega (arith, popped.0, c.len.ensures, c.args.self.now.operands.ok.0)

pub index_mut-requires : goal.index_mut-requires
index_mut-requires c =
    let popped = frame_popped c.args._trees.now c.args.self.now c.pop.new.self.items c.in-Some.frame c.requires.state c.in-Some.ensures.items in
    omega (arith, popped.0, popped.1, c.len.ensures, c.args.self.now.operands.ok.0)

pub returns : goal.returns
returns c = value_given c.args._trees.now c.args.self.now _ c.in-Some.frame c.args.value (c.len.result - c.in-Some.frame.count + c.in-Some.frame.programs) c.requires c.in-Some.ensures.items
    (omega (arith, c.len.ensures, c.args.self.now.operands.ok.0)) refl refl
