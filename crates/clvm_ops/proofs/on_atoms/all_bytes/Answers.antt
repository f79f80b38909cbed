use Rattle.std.proofs.Common.{◌++◌, ◌∙◌, ap₂, sym, arith}
use Rattle.clvm_ops.proofs.NodeLists.{known_at}
use Rattle.clvm_ops.proofs.AtomLaws.{atoms_push}
use Rattle.clvm_ops.proofs.on_atoms.all_bytes.Goals as goal

pub bytes_of-requires : goal.bytes_of-requires
bytes_of-requires c = known_at c.args.trees.now c.args.operands.now c.loop-operand.operand-index record { 0 = 0 } c.requires (omega arith)

pub loop-operand-preserved : goal.loop-operand-preserved
loop-operand-preserved c =
    c.in_ok-extend_from_slice.ensures.items ∙ ap₂ ◌++◌ c.loop-operand.invariant c.bytes_of.ensures
    ∙ sym (atoms_push c.args.trees.now c.args.operands.now c.loop-operand.operand-index record { 0 = 0 } (omega arith))
