use Rattle.std.proofs.Common.{[], ◌∷◌, length}
use Rattle.clvm_tree.specs.Operators.{trees_at}
use Rattle.clvm_ops.proofs.Answered.{answer_within}
use Rattle.clvm_ops.proofs.core_ops.CoreOpsOperators.apply.Goals as goal

pub returns-in-Some-clause-within : goal.returns-in-Some-clause-within
returns-in-Some-clause-within c =
    answer_within c.args.trees.now c.apply_code.new.trees (length c.args.operands.now) c.args.left (c.in-Some.code ∷ []) (trees_at c.args.trees.now c.args.operands.now) c.apply_code.result c.apply_code.ensures
