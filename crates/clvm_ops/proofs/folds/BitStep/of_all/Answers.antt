use Rattle.std.proofs.Common.{to_z, arith}
use Rattle.std.specs.Int.{w128}
use Rattle.clvm_ops.specs.Folds.{bitwise_of}
use Rattle.clvm_ops.proofs.NodeLists.{known_at}
use Rattle.clvm_ops.proofs.FoldLaws.{short_at, bits_step}
use Rattle.clvm_ops.proofs.folds.BitStep.of_all.Goals as goal

pub number_of-requires-clause-known : goal.number_of-requires-clause-known
number_of-requires-clause-known c = known_at c.args.trees.now c.args.operands.now c.loop-operand.operand-index record { 0 = 0 } c.requires.known (omega arith)

pub number_of-requires-clause-short : goal.number_of-requires-clause-short
number_of-requires-clause-short c = short_at c.args.trees.now c.args.operands.now c.loop-operand.operand-index record { 0 = 0 } (omega arith) c.requires.short

pub loop-operand-preserved : goal.loop-operand-preserved
loop-operand-preserved c =
    bits_step (bitwise_of c.args.self).step c.args.trees.now c.args.operands.now c.loop-operand.operand-index record { 0 = 0 } _ (to_z w128 c.loop-operand.bits-bits) c.join-bits.result c.number_of.result (omega arith)
    c.loop-operand.invariant (record { sfits = c.number_of.type_inv }) c.number_of.ensures (record { sfits = c.join-bits.type_inv }) c.join-bits.ensures
