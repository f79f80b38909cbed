use Rattle.std.proofs.Common.{arith}
use Rattle.clvm_ops.proofs.Fits.{far_bits_left}
use Rattle.clvm_ops.proofs.arithmetic.bits_shifted_left.Goals as goal

pub returns-else-by-lt127 : goal.returns-else-by-lt127
returns-else-by-lt127 c = far_bits_left c.args.bits c.args.by (omega arith) c.if-bits-eq0.false
