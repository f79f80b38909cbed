use Rattle.clvm_spec.specs.declared.costs.TheConstants.{CHOICE_COST}
use Rattle.clvm_tree.proofs.OperandLists.{three_operands}
use Rattle.clvm_eval.proofs.QuickLaws.{quickly_same, choice_is}
use Rattle.clvm_eval.proofs.quick.choice.Goals as goal

pub returns-then-is_nil : goal.returns-then-is_nil
returns-then-is_nil c =
    let trees = c.args.trees.now in
    let list = three_operands trees c.args.operands.now record { 0 = 0 } c.in-len3.len_at_least c.in-len3.len_below in
    quickly_same trees trees c.args.left _ _ _ (choice_is CHOICE_COST _ _ _ _ _ list c.if-is_nil.ensures) c.free.ensures

pub returns-else-is_nil : goal.returns-else-is_nil
returns-else-is_nil c =
    let trees = c.args.trees.now in
    let list = three_operands trees c.args.operands.now record { 0 = 0 } c.in-len3.len_at_least c.in-len3.len_below in
    quickly_same trees trees c.args.left _ _ _ (choice_is CHOICE_COST _ _ _ _ _ list c.if-is_nil.ensures) c.free-else-is_nil.ensures
