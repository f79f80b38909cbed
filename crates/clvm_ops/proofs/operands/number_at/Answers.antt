use Rattle.clvm_spec.specs.Operators.{if_short}
use Rattle.clvm_ops.proofs.Answered.{handed}
use Rattle.clvm_ops.proofs.operands.number_at.Goals as goal

pub returns-in_err-bytes-clause-err : goal.returns-in_err-bytes-clause-err
returns-in_err-bytes-clause-err c = handed _ c.in_err-bytes.field-0.0 _ c.from_residual.ensures.1 (λ go. c.in_err-bytes.ensures.err (λ bytes. if_short bytes go))
