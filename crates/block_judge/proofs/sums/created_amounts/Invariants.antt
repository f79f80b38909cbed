use Rattle.std.proofs.Common.{◌≡◌, ◌*◌, ◌^◌, ◌≤◌, take}
use Rattle.std.specs.List.{sum_by}
use Rattle.block_judge.specs.Amounts.{created_by}
use Rattle.block_judge.proofs.sums.created_amounts.Given as goal

abbrev pub invariant-loop-facts : goal.invariant-loop-facts
invariant-loop-facts l = (l.amount ≡ sum_by created_by (take l.facts-index l.list)) × (l.amount ≤ l.facts-index * 2 ^ 96)
