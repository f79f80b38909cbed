use Rattle.std.proofs.Common.{◌≡◌, take}
use Rattle.pool_core.specs.PaymentSums.{paid_ids}
use Rattle.pool_core.proofs.ids.created_ids.Given as goal

abbrev pub invariant-loop-payment : goal.invariant-loop-payment
invariant-loop-payment l = l.ids.items ≡ paid_ids (take l.payment-index l.payments)
