use Rattle.std.proofs.Common.{◌∙◌, arith, rules}
use Rattle.clvm_ops.proofs.Fits.{to_right, far_right_negative, far_right}
use Rattle.clvm_ops.proofs.arithmetic.shifted_right.Goals as goal

pub returns-then-number-lt0 : goal.returns-then-number-lt0
returns-then-number-lt0 c = far_right_negative _ _ c.ranges.number (omega arith) (search rules) ∙ to_right c.args.number c.args.by

pub returns-else-number-lt0 : goal.returns-else-number-lt0
returns-else-number-lt0 c = far_right _ _ c.ranges.number (omega arith) (search rules) ∙ to_right c.args.number c.args.by
