use Rattle.std.proofs.Common.{◌≡◌, Some, sym, ap, ◌∙◌, subst, IfOk}
use Rattle.std.proofs.lemmas.Result.{IfOk-weaker}
use Rattle.clvm_spec.specs.Reading.{tree_of}
use Rattle.clvm_tree.specs.Nodes.{tree_at}
use Rattle.block_spec.specs.declared.spend.Spend.{Spend}
use Rattle.pool_core.specs.SpendPayments.{payment_at, IsPayment}
use Rattle.pool_core.proofs.PaymentLaws.{payment_at-read}
use Rattle.pool_core.proofs.payment.read_payment.Goals as goal

pub returns-in-Ok : goal.returns-in-Ok
returns-in-Ok c =
    let the_spend : Spend = record { coin = c.spend.inside.coin; puzzle = c.spend.inside.puzzle; solution = c.spend.inside.solution } in
    let read : tree_of c.spend.inside.puzzle ≡ Some (tree_at c.read_whole.new.self c.in-Ok.puzzle.0) = ap tree_of (sym c.as_slice.ensures) ∙ c.in-Ok.ensures.found in
    subst (λ s. IfOk c.payment_at.result (IsPayment s)) c.spend.view_is
    (IfOk-weaker c.payment_at.result (λ found. found ≡ payment_at c.spend.inside.coin (tree_at c.read_whole.new.self c.in-Ok.puzzle.0)) (IsPayment the_spend) (λ found e. payment_at-read the_spend _ found read e) c.payment_at.ensures)
