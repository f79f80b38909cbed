use Rattle.std.proofs.Common.{take}
use Rattle.pool_core.specs.SpendPayments.{ArePayments}
use Rattle.pool_core.proofs.payment.payments.Given as goal

abbrev pub invariant-loop-spend : goal.invariant-loop-spend
invariant-loop-spend l = ArePayments (take l.spend-index l.spends) l.payments.items
