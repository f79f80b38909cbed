use Rattle.std.proofs.Common.{◌≡◌, take}
use Rattle.std.specs.List.{concat}
use Rattle.clvm_ops.specs.OperandAtoms.{atoms_at}
use Rattle.clvm_ops.proofs.on_atoms.all_bytes.Given as goal

abbrev pub invariant-loop-operand : goal.invariant-loop-operand
invariant-loop-operand l = l.bytes.items ≡ concat (atoms_at l.trees (take l.operand-index l.operands))
