use Rattle.clvm_ops.proofs.Answered.{spent}
use Rattle.clvm_ops.proofs.application.Application.give.Goals as goal

pub returns-in_err-charged : goal.returns-in_err-charged
returns-in_err-charged c = spent c.args.trees.now c.args.self.now _ c.in_err-charged.field-0.0 _ c.from_residual.ensures.1 (c.in_err-charged.ensures.err _ _)
