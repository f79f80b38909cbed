use Rattle.clvm_ops.proofs.ReadLaws.{NumbersBefore}
use Rattle.clvm_ops.proofs.operands.numbers.Given as goal

abbrev pub invariant-loop-place : goal.invariant-loop-place
invariant-loop-place l = NumbersBefore l.trees l.operands l.place l.size
