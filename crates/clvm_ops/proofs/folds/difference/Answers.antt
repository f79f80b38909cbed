use Rattle.std.proofs.Common.{arith}
use Rattle.clvm_ops.proofs.FoldLaws.{short_at, short_rest}
use Rattle.clvm_ops.proofs.folds.difference.Goals as goal

pub number_of-requires-clause-short : goal.number_of-requires-clause-short
number_of-requires-clause-short c = short_at c.args.trees.now c.args.operands.now 0 record { 0 = 0 } (omega arith) c.requires.short

pub less_others-requires-clause-short : goal.less_others-requires-clause-short
less_others-requires-clause-short c = short_rest c.args.trees.now c.args.operands.now c.requires.short
