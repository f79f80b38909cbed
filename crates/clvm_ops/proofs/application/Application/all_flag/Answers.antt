use Rattle.std.proofs.Common.{ap, sym, ◌∙◌}
use Rattle.clvm_spec.specs.Operators.{free, flag}
use Rattle.clvm_ops.proofs.Answered.{answers_same}
use Rattle.clvm_ops.proofs.TreeLaws.{all_flag_is}
use Rattle.clvm_ops.proofs.application.Application.all_flag.Goals as goal

pub returns : goal.returns
returns c =
    let trees = c.args.trees.now in
    let flagged = all_flag_is c.args.self.now.cost trees c.args.self.now.operands.now c.are_all_true.result c.are_all_true.ensures in
    answers_same trees trees c.args.self.now _ _ _ (flagged ∙ ap (free (flag c.are_all_true.result)) (sym c.truth_cost.ensures)) c.give_flag.ensures
