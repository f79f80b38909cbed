use Rattle.std.proofs.Common.{refl, arith}
use Rattle.clvm_ops.proofs.NodeLists.{known_at}
use Rattle.clvm_ops.proofs.KindLaws.{fair_operand, wrong_operand, all_fair, err_told}
use Rattle.clvm_ops.proofs.kinds.first_fault.Goals as goal

pub loop-place-init : goal.loop-place-init
loop-place-init c = refl

pub operand_fault-requires : goal.operand_fault-requires
operand_fault-requires c = known_at c.args.trees.now c.args.operands.now c.loop-place.place record { 0 = 0 } c.requires.known (omega arith)

pub returns-in_err-operand_fault : goal.returns-in_err-operand_fault
returns-in_err-operand_fault c =
    let told = c.in_err-operand_fault.ensures in
    err_told c.args.trees.now _ c.in_err-operand_fault.field-0.0 c.from_residual.result c.from_residual.ensures.1
    (told.0, wrong_operand c.args.trees.now c.args.kind c.args.operands.now c.loop-place.place record { 0 = 0 } told.0 c.loop-place.invariant (omega arith) told.1, told.2, told.3)

pub loop-place-preserved : goal.loop-place-preserved
loop-place-preserved c =
    fair_operand c.args.trees.now c.args.kind c.args.operands.now c.loop-place.place record { 0 = 0 } c.loop-place.invariant (omega arith) c.in_ok-operand_fault.ensures

pub returns : goal.returns
returns c = all_fair c.args.trees.now c.args.kind c.args.operands.now c.loop-place.place c.loop-place.invariant (omega arith)
