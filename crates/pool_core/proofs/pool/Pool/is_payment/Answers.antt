use Rattle.std.proofs.Common.{◌≡◌, true, false, ◌==◌, length, ap, sym, ◌∙◌, subst}
use Rattle.std.proofs.lemmas.Option.{MatchOption-at_some}
use Rattle.std.proofs.lemmas.Result.{IfOk-weaker}
use Rattle.pool_spec.specs.Payment.{is_payment}
use Rattle.pool_core.specs.SpendPayments.{ArePayments}
use Rattle.pool_core.specs.PaymentSums.{pays_out}
use Rattle.pool_core.proofs.AdmitLaws.{is_payment-by_payments}
use Rattle.pool_core.proofs.pool.Pool.is_payment.Goals as goal

pub returns-in-Some : goal.returns-in-Some
returns-in-Some c =
    let bundle = c.args.bundle.now in
    let some : (length bundle.spends == 0) ≡ false = ap (λ s. length s == 0) (sym c.as_slice-spends.ensures.value) ∙ sym c.is_empty.ensures ∙ c.if-is_empty.false in
    let none : (length bundle.attested == 0) ≡ true = ap (λ s. length s == 0) (sym c.as_slice.ensures.value) ∙ sym c.is_empty-else-is_empty.ensures ∙ c.if-not-is_empty.false in
    let paid : ArePayments c.as_slice-spends.result.now c.in-Some.payments.items = MatchOption-at_some _ _ _ c.in-Some.is c.in_ok-payments.ensures in
    let are : ArePayments bundle.spends c.deref.result.now = subst (λ s. ArePayments s c.deref.result.now) c.as_slice-spends.ensures.value (subst (ArePayments c.as_slice-spends.result.now) (sym c.deref.ensures.value) paid) in
    let law = is_payment-by_payments c.self.inside.store bundle c.deref.result.now some none are in
    let here : pays_out c.self.inside.store c.as_slice-spends.result.now c.deref.result.now ≡ is_payment c.args.self.now.chain bundle = ap (λ s. pays_out c.self.inside.store s c.deref.result.now) c.as_slice-spends.ensures.value ∙ sym law ∙ ap (λ s. is_payment s.chain bundle) c.self.view_is in
    IfOk-weaker c.pays_out.result (λ b. b ≡ pays_out c.self.inside.store c.as_slice-spends.result.now c.deref.result.now) (λ b. b ≡ is_payment c.args.self.now.chain bundle) (λ b e. e ∙ here) c.pays_out.ensures
