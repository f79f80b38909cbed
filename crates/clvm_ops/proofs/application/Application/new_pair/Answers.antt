use Rattle.std.proofs.Common.{ap}
use Rattle.clvm_spec.specs.Tree.{Pair}
use Rattle.clvm_spec.specs.Operators.{new_pair}
use Rattle.clvm_ops.proofs.Answered.{spent, answers_same}
use Rattle.clvm_tree.proofs.OperandLists.{two_operands}
use Rattle.clvm_ops.proofs.application.Application.new_pair.Goals as goal

pub returns-in_err-charge : goal.returns-in_err-charge
returns-in_err-charge c =
    let trees = c.args.trees.now in
    let list = two_operands trees c.args.self.now.operands.now record { 0 = 0 } c.in-len2.len_at_least c.in-len2.len_below in
    answers_same trees trees c.args.self.now _ _ _ (ap (new_pair c.args.self.now.cost) list) (spent trees c.args.self.now _ c.in_err-charge.field-0.0 _ c.from_residual.ensures.1 (c.in_err-charge.ensures.err trees (Pair _ _)))
