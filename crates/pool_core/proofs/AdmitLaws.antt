-- Admission and its condition, from what is found of the bundle.
use Rattle.std.proofs.Common.{◌≡◌, ℕ, Bool, true, false, ◌==◌, ◌&&◌, not, nat_lt, nat_le, List, [], length, refl, ap, ap₂, sym, ◌∙◌, arith}
use Rattle.std.specs.Prelude.{is_none}
use Rattle.std.specs.List.{list_all}
use Rattle.std.proofs.lemmas.Bool.Decides.{nat_tests}
use Rattle.block_spec.specs.declared.spend.Spend.{Spend}
use Rattle.block_spec.specs.declared.bundle.Bundle.{Bundle}
use Rattle.chain_spec.specs.Chain.{Chain, is_in_chain, ledger_of}
use Rattle.judge_spec.specs.Judgement.{judgement, terms_of}
use Rattle.pool_spec.specs.FirstJudgement.{spent_amounts}
use Rattle.coin_facts.specs.IdLists.{repeat_behind}
use Rattle.pool_spec.specs.Payment.{is_payment}
use Rattle.pool_spec.specs.Pool.{PoolState}
use Rattle.pool_spec.specs.FirstAdmission.{first_admission, admission_by}
use Rattle.pool_core.specs.declared.payment.Payment.{Payment}
use Rattle.pool_core.specs.declared.fault.AdmitFault.{AdmitFault}
use Rattle.pool_core.specs.declared.fault.AdmitFault.TheVariants.{Refused, OutOfMemory}
use Rattle.pool_core.specs.SpendPayments.{ArePayments}
use Rattle.pool_core.specs.PaymentSums.{pays_out}
use Rattle.pool_core.specs.Verdicts.{IsRefusal}
use Rattle.pool_core.specs.Admissions.{IsRefusedBy}
use Rattle.pool_core.proofs.JudgeLaws.{paid_ids-created, paid_amounts-created}

-- What the verdict refuses, the admission refuses.
pub refused-by_verdict : (state : PoolState) (bundle : Bundle) (fault : AdmitFault) → IsRefusal (judgement (terms_of state.limits) (ledger_of state.chain) bundle.spends bundle.attested) fault → IsRefusedBy (first_admission state bundle) fault
refused-by_verdict state bundle (Refused rule place) verdict = ap (admission_by state bundle) verdict
refused-by_verdict state bundle OutOfMemory verdict = tt

three_hold : (a b c d e f : Bool) → a ≡ true → b ≡ true → c ≡ true → (a && b && c && d && e && f) ≡ (d && e && f)
three_hold true true true d e f ha hb hc = refl
three_hold true true false d e f ha hb hc = cc
three_hold true false c d e f ha hb hc = cc
three_hold false b c d e f ha hb hc = cc

-- where there is a spend, nothing is attested and every puzzle pays
pub is_payment-by_payments : (chain : Chain) (bundle : Bundle) (payments : List Payment) → (length bundle.spends == 0) ≡ false → (length bundle.attested == 0) ≡ true → ArePayments bundle.spends payments → is_payment chain bundle ≡ pays_out chain bundle.spends payments
is_payment-by_payments chain bundle payments some none are =
    let ids = paid_ids-created bundle.spends payments are in
    let amounts = paid_amounts-created bundle.spends payments are in
    three_hold _ _ _ _ _ _ (there_is (length bundle.spends) some) none are.all_pay
    ∙ sym (λ i. is_none (repeat_behind [] 0 (ids i)) && nat_le (amounts i) (spent_amounts bundle.spends) && list_all (λ id. not (is_in_chain (ledger_of chain) id)) (ids i))
  where
    there_is : (n : ℕ) → (n == 0) ≡ false → nat_lt 0 n ≡ true
    there_is n h = grind (arith, nat_tests)
