use Rattle.std.proofs.Common.{length}
use Rattle.clvm_ops.proofs.TreeLaws.{Listed}
use Rattle.clvm_ops.proofs.on_trees.list_of.Given as goal

abbrev pub invariant-operands : goal.invariant-operands
invariant-operands l = Listed l.fn.trees l.trees l.operands l.rest l.list.0

abbrev pub decreases-operands : goal.decreases-operands
decreases-operands l = length l.rest
