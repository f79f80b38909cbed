use Rattle.std.proofs.Common.{List, ℕ, ◌++◌, take, ap, sym, ◌∙◌, subst, arith}
use Rattle.std.specs.List.{concat}
use Rattle.sha2.specs.Hashers.{Holds256}
use Rattle.clvm_ops.specs.OperandAtoms.{atoms_at}
use Rattle.clvm_ops.proofs.NodeLists.{known_at}
use Rattle.clvm_ops.proofs.AtomLaws.{atoms_push}
use Rattle.clvm_ops.proofs.on_atoms.hash_of_all.Goals as goal

pub bytes_of-requires : goal.bytes_of-requires
bytes_of-requires c = known_at c.args.trees.now c.args.operands.now c.loop-operand.operand-index record { 0 = 0 } c.requires (omega arith)

pub loop-operand-preserved : goal.loop-operand-preserved
loop-operand-preserved c =
    let so_far = concat (atoms_at c.args.trees.now (take c.loop-operand.operand-index c.args.operands.now)) in
    let more = ap (λ bytes. so_far ++ bytes) c.bytes_of.ensures ∙ sym (atoms_push c.args.trees.now c.args.operands.now c.loop-operand.operand-index record { 0 = 0 } (omega arith)) in
    subst (λ (m : List ℕ). Holds256 c.update.new.self m) more (c.update.ensures so_far c.loop-operand.invariant)
