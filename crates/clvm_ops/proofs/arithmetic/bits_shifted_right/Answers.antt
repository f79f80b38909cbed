use Rattle.std.proofs.Common.{pos, ap, sym, ◌∙◌, arith}
use Rattle.std.specs.Int.{w128}
use Rattle.std.proofs.lemmas.Int.{to_z_pos}
use Rattle.clvm_ops.proofs.Fits.{to_right, halved, far_bits_right}
use Rattle.clvm_ops.proofs.arithmetic.bits_shifted_right.Goals as goal

pub overflow_cast-result-then-by-lt128 : goal.overflow_cast-result-then-by-lt128
overflow_cast-result-then-by-lt128 c = record { sfits = halved c.args.bits c.args.by (omega arith) c.requires }

pub returns-then-by-lt128 : goal.returns-then-by-lt128
returns-then-by-lt128 c = to_z_pos w128 _ (halved c.args.bits c.args.by (omega arith) c.requires) ∙ to_right (pos c.args.bits) c.args.by

pub returns-else-by-lt128 : goal.returns-else-by-lt128
returns-else-by-lt128 c = ap pos (sym (far_bits_right c.args.bits c.args.by (omega arith) (omega arith))) ∙ to_right (pos c.args.bits) c.args.by
