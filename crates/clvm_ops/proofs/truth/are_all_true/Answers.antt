use Rattle.std.proofs.Common.{arith}
use Rattle.clvm_ops.proofs.NodeLists.{known_at}
use Rattle.clvm_ops.proofs.truth.are_all_true.Goals as goal

pub is_nil-requires : goal.is_nil-requires
is_nil-requires c = known_at c.args.trees.now c.args.operands.now c.loop-operand.operand-index record { 0 = 0 } c.requires (omega arith)
