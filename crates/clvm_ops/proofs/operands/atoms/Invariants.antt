use Rattle.clvm_ops.proofs.ReadLaws.{AtomsBefore}
use Rattle.clvm_ops.proofs.operands.atoms.Given as goal

abbrev pub invariant-loop-place : goal.invariant-loop-place
invariant-loop-place l = AtomsBefore l.trees l.operands l.place l.size
