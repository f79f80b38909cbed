use Rattle.std.proofs.Common.{◌≡◌, ◌-◌, ◌*◌, ◌^◌, ◌≤◌, take}
use Rattle.pool_spec.specs.FirstJudgement.{spent_amounts}
use Rattle.pool_core.proofs.sums.spent_amount.Given as goal

abbrev pub invariant-loop-spend : goal.invariant-loop-spend
invariant-loop-spend l = (l.amount ≡ spent_amounts (take l.spend-index l.spends)) × (l.amount ≤ l.spend-index * (2 ^ 64 - 1))
