use Rattle.std.proofs.Common.{take}
use Rattle.std.specs.List.{concat}
use Rattle.sha2.specs.Hashers.{Holds256}
use Rattle.clvm_ops.specs.OperandAtoms.{atoms_at}
use Rattle.clvm_ops.proofs.on_atoms.hash_of_all.Given as goal

abbrev pub invariant-loop-operand : goal.invariant-loop-operand
invariant-loop-operand l = Holds256 l.hasher (concat (atoms_at l.trees (take l.operand-index l.operands)))
