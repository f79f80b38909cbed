use Rattle.std.proofs.Common.{◌≡◌, ◌+◌, ◌*◌, length, ap, ap₂, ◌∙◌, sym}
use Rattle.clvm_spec.specs.declared.costs.TheConstants.{QUOTE_COST}
use Rattle.cond_spec.specs.declared.costs.TheConstants.{CREATE_COIN_COST}
use Rattle.judge_spec.specs.declared.costs.TheConstants.{BYTE_COST}
use Rattle.pool_spec.specs.FirstJudgement.{coins_made_by}
use Rattle.pool_core.proofs.PaymentLaws.{paying_cost}
use Rattle.pool_core.proofs.judge.added_cost.Goals as goal

pub returns-clause-value : goal.returns-clause-value
returns-clause-value c =
    let created : c.as_slice.result.now ≡ coins_made_by c.args.spend.now = c.as_slice.ensures.value ∙ ap (λ p. p.created) c.requires.payment in
    let bytes = c.added_bytes.ensures.value in
    let coins = ap (λ coins. QUOTE_COST + CREATE_COIN_COST * length coins) created ∙ sym (paying_cost c.args.spend.now c.requires.pays) in
    ap (λ quote. BYTE_COST * c.added_bytes.result + (quote + CREATE_COIN_COST * length c.as_slice.result.now)) c.from.ensures
    ∙ ap₂ (λ n m. BYTE_COST * n + m) bytes coins
