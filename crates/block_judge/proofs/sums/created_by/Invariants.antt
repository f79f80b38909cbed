use Rattle.std.proofs.Common.{◌≡◌, ◌-◌, ◌*◌, ◌^◌, ◌≤◌, take}
use Rattle.std.specs.List.{sum_by}
use Rattle.block_judge.specs.Amounts.{created_amount}
use Rattle.block_judge.proofs.sums.created_by.Given as goal

abbrev pub invariant-loop-condition : goal.invariant-loop-condition
invariant-loop-condition l = (l.amount ≡ sum_by created_amount (take l.condition-index l.conditions)) × (l.amount ≤ l.condition-index * (2 ^ 64 - 1))
