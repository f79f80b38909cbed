use Rattle.clvm_ops.proofs.Answered.{faulty, answers_same}
use Rattle.clvm_ops.proofs.AtomLaws.{bytes_greater_flag_is}
use Rattle.clvm_ops.proofs.application.Application.bytes_greater_flag.Goals as goal

pub returns-in_err-first : goal.returns-in_err-first
returns-in_err-first c = faulty c.args.trees.now c.args.self.now _ c.in_err-first.field-0.0 _ c.from_residual.ensures.1 (c.in_err-first.ensures.err _)

pub returns : goal.returns
returns c =
    let trees = c.args.trees.now in
    answers_same trees trees c.args.self.now _ _ _ (bytes_greater_flag_is c.args.self.now.cost _ _ _ _ c.in_ok-first.ensures.ok c.gt.ensures) c.give_flag.ensures
