use Rattle.clvm_ops.proofs.Answered.{faulty, spent, answers_same}
use Rattle.clvm_ops.proofs.AtomLaws.{hash_of_is}
use Rattle.clvm_ops.proofs.application.Application.hash_of.Goals as goal

pub returns-in_err-size : goal.returns-in_err-size
returns-in_err-size c = faulty c.args.trees.now c.args.self.now _ c.in_err-size.field-0.0 _ c.from_residual.ensures.1 (c.in_err-size.ensures.err _)

pub returns-in_err-charge : goal.returns-in_err-charge
returns-in_err-charge c =
    let trees = c.args.trees.now in
    answers_same trees trees c.args.self.now _ _ _ (hash_of_is c.args.self.now.cost trees c.args.self.now.operands.now c.in_ok-size.size c.in_ok-size.ensures.ok)
    (spent trees c.args.self.now _ c.in_err-charge.field-0.0 _ c.from_residual-in_err-charge.ensures.1 (c.in_err-charge.ensures.err trees _))
