use Rattle.clvm_ops.proofs.KindLaws.{FirstFrom}
use Rattle.clvm_ops.proofs.kinds.first_fault.Given as goal

abbrev pub invariant-loop-place : goal.invariant-loop-place
invariant-loop-place l = FirstFrom l.trees l.kind l.operands l.place
