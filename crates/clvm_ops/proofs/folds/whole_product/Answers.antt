use Rattle.std.proofs.Common.{length, ap, arith}
use Rattle.std.proofs.lemmas.Bool.{leb-true}
use Rattle.clvm_spec.specs.declared.limits.TheConstants.{NUMBER_BYTES}
use Rattle.clvm_ops.proofs.FoldLaws.{short_at, short_rest}
use Rattle.clvm_ops.proofs.folds.whole_product.Goals as goal

pub number-requires : goal.number-requires
number-requires c = omega (arith, leb-true _ NUMBER_BYTES (short_at c.args.trees.now c.args.operands.now 0 record { 0 = 0 } (omega arith) c.requires.short), ap length c.bytes_of-bytes.ensures)

pub times_others-requires-clause-size : goal.times_others-requires-clause-size
times_others-requires-clause-size c = omega (arith, leb-true _ NUMBER_BYTES (short_at c.args.trees.now c.args.operands.now 0 record { 0 = 0 } (omega arith) c.requires.short), ap length c.bytes_of-bytes.ensures)

pub times_others-requires-clause-short : goal.times_others-requires-clause-short
times_others-requires-clause-short c = short_rest c.args.trees.now c.args.operands.now c.requires.short
