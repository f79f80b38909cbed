use Rattle.std.proofs.Common.{◌≡◌, List, [], drop}
use Rattle.coin_facts.specs.declared.hash32.Hash32.{Hash32}
use Rattle.coin_facts.specs.IdLists.{repeat_behind}
use Rattle.block_judge.specs.IdSets.{HasIds}
use Rattle.block_judge.proofs.ids.first_repeat.Given as goal

abbrev pub invariant-loop-place : goal.invariant-loop-place
invariant-loop-place l =
    (earlier : List Hash32) × HasIds l.earlier earlier × (repeat_behind earlier l.place (drop l.place l.ids) ≡ repeat_behind [] 0 l.ids)
