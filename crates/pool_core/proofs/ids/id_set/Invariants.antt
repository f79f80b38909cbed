use Rattle.std.proofs.Common.{take}
use Rattle.pool_core.specs.IdSets.{HasIds}
use Rattle.pool_core.proofs.ids.id_set.Given as goal

abbrev pub invariant-loop-id : goal.invariant-loop-id
invariant-loop-id l = HasIds l.set (take l.id-index l.ids)
