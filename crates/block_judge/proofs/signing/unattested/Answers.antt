use Rattle.std.proofs.Common.{◌≡◌, ℕ, not, Option, ap, ◌∙◌}
use Rattle.std.specs.Prelude.{position}
use Rattle.std.specs.List.{list_all}
use Rattle.std.proofs.lemmas.Result.{IfOk-weaker}
use Rattle.cond_spec.specs.Acts.{of_spend}
use Rattle.cond_spec.specs.Signing.{to_sign, ToSign}
use Rattle.judge_spec.specs.Facts.{acts_of}
use Rattle.judge_spec.specs.Checks.{is_attested, first_spend, is_not_attested}
use Rattle.block_judge.specs.Breaches.{scene_on}
use Rattle.block_judge.specs.Signatures.{is_in}
use Rattle.block_judge.proofs.signing.unattested.Goals as goal

-- The set has just the attested pairs.
pub returns-clause-value : goal.returns-clause-value
returns-clause-value g c =
    let list = c.args.list.now in
    let set = c.in_ok-attested.attested in
    let same : (pair : ToSign) → is_in set pair ≡ is_attested c.args.attested.now pair = λ pair. c.in_ok-attested.ensures pair ∙ ap (λ pairs. is_attested pairs pair) c.as_slice.ensures.value in
    IfOk-weaker c.unsigned.result
    (λ place. place ≡ position (λ facts. not (list_all (is_in set) (of_spend (to_sign c.genesis.result) (acts_of facts)))) list)
    (λ place. place ≡ first_spend is_not_attested (scene_on (g.C.Coins.seen c.args.coins.now) list c.args.attested.now))
    (λ place is. is ∙ (λ i. position (λ facts. not (list_all (λ pair. same pair i) (of_spend (to_sign (c.genesis.ensures i)) (acts_of facts)))) list))
    c.unsigned.ensures.value
