use Rattle.std.proofs.Common.{ap, sym, ◌∙◌}
use Rattle.clvm_spec.specs.Operators.{free, flag}
use Rattle.clvm_ops.proofs.Answered.{answers_same}
use Rattle.clvm_ops.proofs.TreeLaws.{any_flag_is}
use Rattle.clvm_ops.proofs.application.Application.any_flag.Goals as goal

pub returns : goal.returns
returns c =
    let trees = c.args.trees.now in
    let flagged = any_flag_is c.args.self.now.cost trees c.args.self.now.operands.now c.is_one_true.result c.is_one_true.ensures in
    answers_same trees trees c.args.self.now _ _ _ (flagged ∙ ap (free (flag c.is_one_true.result)) (sym c.truth_cost.ensures)) c.give_flag.ensures
