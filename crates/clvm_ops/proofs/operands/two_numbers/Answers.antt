use Rattle.clvm_spec.specs.Operators.{number_at}
use Rattle.clvm_ops.proofs.Answered.{handed}
use Rattle.clvm_tree.proofs.OperandLists.{two_operands}
use Rattle.clvm_ops.proofs.ReadLaws.{first_bad, second_bad, number_read}
use Rattle.clvm_ops.proofs.operands.two_numbers.Goals as goal

pub returns-in_err-first-clause-err : goal.returns-in_err-first-clause-err
returns-in_err-first-clause-err c =
    let list = two_operands c.args.trees.now c.args.operands.now record { 0 = 0 } c.in-len2.len_at_least c.in-len2.len_below in
    handed _ c.in_err-first.field-0.0 _ c.from_residual.ensures.1 (first_bad number_at c.args.trees.now _ _ _ _ list c.in_err-first.ensures.err)

pub returns-in_err-second-clause-err : goal.returns-in_err-second-clause-err
returns-in_err-second-clause-err c =
    let list = two_operands c.args.trees.now c.args.operands.now record { 0 = 0 } c.in-len2.len_at_least c.in-len2.len_below in
    handed _ c.in_err-second.field-0.0 _ c.from_residual-in_err-second.ensures.1 (second_bad number_at c.args.trees.now _ _ _ c.in_ok-first.first.now _ list
    (λ go. number_read 0 _ _ go c.in_ok-first.ensures.ok c.in_ok-first.ensures.short) c.in_err-second.ensures.err)
