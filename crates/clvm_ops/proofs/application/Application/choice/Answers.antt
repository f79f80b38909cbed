use Rattle.clvm_ops.proofs.Answered.{answers_same}
use Rattle.clvm_tree.proofs.OperandLists.{three_operands}
use Rattle.clvm_ops.proofs.TreeLaws.{choice_is}
use Rattle.clvm_ops.proofs.application.Application.choice.Goals as goal

pub returns-then-is_nil : goal.returns-then-is_nil
returns-then-is_nil c =
    let trees = c.args.trees.now in
    let list = three_operands trees c.args.self.now.operands.now record { 0 = 0 } c.in-len3.len_at_least c.in-len3.len_below in
    answers_same trees trees c.args.self.now _ _ _ (choice_is c.args.self.now.cost _ _ _ _ _ list c.if-is_nil.ensures) c.give.ensures

pub returns-else-is_nil : goal.returns-else-is_nil
returns-else-is_nil c =
    let trees = c.args.trees.now in
    let list = three_operands trees c.args.self.now.operands.now record { 0 = 0 } c.in-len3.len_at_least c.in-len3.len_below in
    answers_same trees trees c.args.self.now _ _ _ (choice_is c.args.self.now.cost _ _ _ _ _ list c.if-is_nil.ensures) (c.give-else-is_nil.ensures)
