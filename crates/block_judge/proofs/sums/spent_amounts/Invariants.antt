use Rattle.std.proofs.Common.{◌≡◌, ◌-◌, ◌*◌, ◌^◌, ◌≤◌, map, take}
use Rattle.cond_spec.specs.Acts.{spent_amounts}
use Rattle.judge_spec.specs.Facts.{acts_of}
use Rattle.block_judge.proofs.sums.spent_amounts.Given as goal

abbrev pub invariant-loop-facts : goal.invariant-loop-facts
invariant-loop-facts l = (l.amount ≡ spent_amounts (map acts_of (take l.facts-index l.list))) × (l.amount ≤ l.facts-index * (2 ^ 64 - 1))
