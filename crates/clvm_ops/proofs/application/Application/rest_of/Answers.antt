use Rattle.std.proofs.Common.{◌∷◌, [], ap, ◌∙◌}
use Rattle.clvm_spec.specs.Operators.{rest_of}
use Rattle.clvm_ops.proofs.Answered.{answers_same}
use Rattle.clvm_tree.proofs.OperandLists.{one_operand}
use Rattle.clvm_ops.proofs.application.Application.rest_of.Goals as goal

pub returns-in-Parts : goal.returns-in-Parts
returns-in-Parts c =
    let trees = c.args.trees.now in
    let list = one_operand trees c.args.self.now.operands.now _ c.in-len1.len_at_least c.in-len1.len_below in
    answers_same trees trees c.args.self.now _ _ _ (ap (rest_of c.args.self.now.cost) (list ∙ ap (λ t. t ∷ []) c.in-Parts.ensures.pair)) c.give.ensures
