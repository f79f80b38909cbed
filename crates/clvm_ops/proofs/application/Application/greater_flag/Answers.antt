use Rattle.clvm_tree.specs.Operators.{trees_at}
use Rattle.clvm_ops.proofs.Answered.{faulty, answers_same}
use Rattle.clvm_ops.proofs.NumberOps.{greater_flag_is}
use Rattle.clvm_ops.proofs.application.Application.greater_flag.Goals as goal

pub returns-in_err-first : goal.returns-in_err-first
returns-in_err-first c = faulty c.args.trees.now c.args.self.now _ c.in_err-first.field-0.0 _ c.from_residual.ensures.1 (c.in_err-first.ensures.err _)

pub returns : goal.returns
returns c =
    let trees = c.args.trees.now in
    answers_same trees trees c.args.self.now _ _ _ (greater_flag_is c.args.self.now.cost (trees_at trees c.args.self.now.operands.now) _ _ _ c.in_ok-first.ensures.ok c.is_greater.ensures) c.give_flag.ensures
