use Rattle.std.proofs.Common.{◌≡◌, take}
use Rattle.pool_spec.specs.FirstJudgement.{spent_ids}
use Rattle.pool_core.proofs.ids.spent_ids.Given as goal

abbrev pub invariant-loop-spend : goal.invariant-loop-spend
invariant-loop-spend l = l.ids.items ≡ spent_ids (take l.spend-index l.spends)
