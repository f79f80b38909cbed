use Rattle.std.proofs.Common.{◌≡◌, ◌++◌, take}
use Rattle.std.specs.List.{flat_map}
use Rattle.block_judge.specs.IdSets.{ids_made}
use Rattle.block_judge.proofs.ids.push_created.Given as goal

abbrev pub invariant-loop-condition : goal.invariant-loop-condition
invariant-loop-condition l = l.ids.items ≡ l.initial.ids.items ++ flat_map (ids_made l.coin) (take l.condition-index l.condition-items)
