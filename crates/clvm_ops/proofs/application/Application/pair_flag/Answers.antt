use Rattle.clvm_ops.proofs.Answered.{answers_same}
use Rattle.clvm_tree.proofs.OperandLists.{one_operand}
use Rattle.clvm_ops.proofs.TreeLaws.{pair_flag_is}
use Rattle.clvm_ops.proofs.application.Application.pair_flag.Goals as goal

pub returns : goal.returns
returns c =
    let trees = c.args.trees.now in
    let list = one_operand trees c.args.self.now.operands.now record { 0 = 0 } c.in-len1.len_at_least c.in-len1.len_below in
    answers_same trees trees c.args.self.now _ _ _ (pair_flag_is c.args.self.now.cost _ _ _ list c.is_pair.ensures) c.give_flag.ensures
