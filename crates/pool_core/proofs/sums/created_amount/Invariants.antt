use Rattle.std.proofs.Common.{◌≡◌, ◌*◌, ◌^◌, ◌≤◌, take}
use Rattle.pool_core.specs.PaymentSums.{paid_amounts}
use Rattle.pool_core.proofs.sums.created_amount.Given as goal

abbrev pub invariant-loop-payment : goal.invariant-loop-payment
invariant-loop-payment l = (l.amount ≡ paid_amounts (take l.payment-index l.payments)) × (l.amount ≤ l.payment-index * 2 ^ 96)
