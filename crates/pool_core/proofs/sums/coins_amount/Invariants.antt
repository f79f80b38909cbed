use Rattle.std.proofs.Common.{◌≡◌, ◌-◌, ◌*◌, ◌^◌, ◌≤◌, take}
use Rattle.std.specs.List.{sum_by}
use Rattle.pool_core.proofs.sums.coins_amount.Given as goal

abbrev pub invariant-loop-coin : goal.invariant-loop-coin
invariant-loop-coin l = (l.amount ≡ sum_by (λ coin. coin.amount) (take l.coin-index l.coins)) × (l.amount ≤ l.coin-index * (2 ^ 64 - 1))
