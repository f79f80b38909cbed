use Rattle.std.proofs.Common.{take}
use Rattle.block_judge.specs.IdSets.{HasIds}
use Rattle.block_judge.proofs.ids.id_set.Given as goal

abbrev pub invariant-loop-id : goal.invariant-loop-id
invariant-loop-id l = HasIds l.set (take l.id-index l.ids)
