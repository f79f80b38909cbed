use Rattle.std.proofs.Common.{◌≡◌, take}
use Rattle.judge_spec.specs.GrowthLaws.{ids_spent}
use Rattle.block_judge.proofs.ids.ids_of_spends.Given as goal

abbrev pub invariant-loop-spend : goal.invariant-loop-spend
invariant-loop-spend l = l.ids.items ≡ ids_spent (take l.spend-index l.spends)
