use Rattle.std.proofs.Common.{arith}
use Rattle.clvm_ops.proofs.Answered.{handed}
use Rattle.clvm_ops.proofs.NodeLists.{known_at}
use Rattle.clvm_ops.proofs.ReadLaws.{numbers_more, numbers_bad, numbers_whole}
use Rattle.clvm_ops.proofs.operands.numbers.Goals as goal

pub number_at-requires : goal.number_at-requires
number_at-requires c = known_at c.args.trees.now c.args.operands.now c.loop-place.place record { 0 = 0 } c.requires.known (omega arith)

pub returns-in_err-size-clause-err : goal.returns-in_err-size-clause-err
returns-in_err-size-clause-err c =
    handed _ c.in_err-size.field-0.0 _ c.from_residual.ensures.1
    (numbers_bad c.args.trees.now c.args.operands.now c.loop-place.place c.loop-place.size record { 0 = 0 } _ (omega arith) c.loop-place.invariant c.in_err-size.ensures.err)

pub loop-place-preserved : goal.loop-place-preserved
loop-place-preserved c =
    numbers_more c.args.trees.now c.args.operands.now c.loop-place.place c.loop-place.size record { 0 = 0 } c.in_ok-size.field-0.now (omega arith) c.in_ok-size.ensures.ok c.in_ok-size.ensures.short c.loop-place.invariant

pub returns-clause-ok : goal.returns-clause-ok
returns-clause-ok c = numbers_whole c.args.trees.now c.args.operands.now c.loop-place.place c.loop-place.size (omega arith) c.loop-place.invariant
