use Rattle.std.proofs.Common.{ap}
use Rattle.clvm_spec.specs.Operators.{atom_at}
use Rattle.clvm_ops.proofs.Answered.{handed}
use Rattle.clvm_tree.proofs.OperandLists.{two_operands}
use Rattle.clvm_ops.proofs.ReadLaws.{first_bad, second_bad}
use Rattle.clvm_ops.proofs.operands.two_atoms.Goals as goal

pub returns-in_err-first-clause-err : goal.returns-in_err-first-clause-err
returns-in_err-first-clause-err c =
    let list = two_operands c.args.trees.now c.args.operands.now record { 0 = 0 } c.in-len2.len_at_least c.in-len2.len_below in
    handed _ c.in_err-first.field-0.0 _ c.from_residual.ensures.1 (first_bad atom_at c.args.trees.now _ _ _ _ list c.in_err-first.ensures.err)

pub returns-in_err-second-clause-err : goal.returns-in_err-second-clause-err
returns-in_err-second-clause-err c =
    let list = two_operands c.args.trees.now c.args.operands.now record { 0 = 0 } c.in-len2.len_at_least c.in-len2.len_below in
    handed _ c.in_err-second.field-0.0 _ c.from_residual-in_err-second.ensures.1 (second_bad atom_at c.args.trees.now _ _ _ c.in_ok-first.first.now _ list
    (λ go. ap (λ t. atom_at 0 t go) c.in_ok-first.ensures.ok) c.in_err-second.ensures.err)
