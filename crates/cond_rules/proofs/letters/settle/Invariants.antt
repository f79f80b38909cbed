use Rattle.std.proofs.Common.{length}
use Rattle.cond_rules.specs.LettersInside.{IsQueued}
use Rattle.cond_rules.proofs.letters.settle.Given as goal

abbrev pub decreases-loop-index : goal.decreases-loop-index
decreases-loop-index l = length l.uneven.indexes

abbrev pub invariant-loop-index : goal.invariant-loop-index
invariant-loop-index l = IsQueued l.total l.counts.entries l.uneven.indexes
