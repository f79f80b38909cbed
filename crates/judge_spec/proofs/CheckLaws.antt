-- The first broken rule, and what is attested as a set.
use Rattle.std.proofs.Common.{◌≡◌, ◌&&◌, not, Bool, List, [], ◌∷◌, ◌++◌, refl, ap, ◌∙◌}
use Rattle.std.specs.Prelude.{position}
use Rattle.std.specs.List.{list_any, list_all}
use Rattle.std.specs.Str.{bytes_eq}
use Rattle.block_spec.specs.declared.spend.Spend.{Spend}
use Rattle.block_spec.specs.declared.attested.Signed.{Signed}
use Rattle.chain_spec.specs.Chain.{Ledger}
use Rattle.cond_spec.specs.Acts.{of_spend}
use Rattle.cond_spec.specs.Signing.{to_sign}
use Rattle.cond_spec.specs.ActRules.{unmade_announcement, absent_spend, not_ephemeral, uneven_message, creates_too_much, lacks_reserved_fee}
use Rattle.judge_spec.specs.declared.rule.Rule.TheVariants as rules
use Rattle.judge_spec.specs.Facts.{Facts, acts_of}
use Rattle.judge_spec.specs.Checks.{Terms, Scene, first_spend, is_unknown, is_spent_in_chain, has_wrong_birth, is_too_early, is_too_late, is_not_attested, coin_exists, acts_in}
use Rattle.judge_spec.specs.Judgement.{Fine, unless_broken, first_broken, cost_of, fee_of, judged, spent_twice, with_facts, judgement}
use Rattle.judge_spec.specs.JudgeLaws.{FirstIsTold, NoneIsTold, AttestedIsASet}

pub first-is-told : FirstIsTold
first-is-told scene [] after check place verdict kept is = ap (λ place. unless_broken check.rule place (first_broken after scene verdict)) is
first-is-told scene (first ∷ before) after check place verdict kept is =
    ap (λ place. unless_broken first.rule place (first_broken (before ++ check ∷ after) scene verdict)) kept.0 ∙ first-is-told scene before after check place verdict kept.1 is

pub none-is-told : NoneIsTold
none-is-told scene [] verdict kept = refl
none-is-told scene (first ∷ checks) verdict kept =
    ap (λ place. unless_broken first.rule place (first_broken checks scene verdict)) kept.0 ∙ none-is-told scene checks verdict kept.1

module _ (terms : Terms) (ledger : Ledger) (attested others : List Signed) (same : (test : Signed → Bool) → list_any test attested ≡ list_any test others) where
  abbrev scene_of : List Signed → List Facts → Scene
  scene_of pairs list = record { terms = terms; ledger = ledger; list = list; attested = pairs }

  pairs-same : (list : List Facts) → first_spend is_not_attested (scene_of attested list) ≡ first_spend is_not_attested (scene_of others list)
  pairs-same list = λ j. position (λ facts. not (list_all (λ pair. same (λ signed. bytes_eq signed.key pair.key && bytes_eq signed.message pair.message) j) (of_spend (to_sign ledger.genesis) (acts_of facts)))) list

  judged-same : (list : List Facts) → judged (scene_of attested list) ≡ judged (scene_of others list)
  judged-same list = λ j.
      let scene = scene_of attested list in
      let acts = acts_in scene in
      unless_broken rules.UnknownCoin (first_spend is_unknown scene) (unless_broken rules.SpentInChain (first_spend is_spent_in_chain scene)
      (unless_broken rules.WrongBirth (first_spend has_wrong_birth scene) (unless_broken rules.TooEarly (first_spend is_too_early scene)
      (unless_broken rules.TooLate (first_spend is_too_late scene) (unless_broken rules.UnmadeAnnouncement (unmade_announcement acts)
      (unless_broken rules.AbsentSpend (absent_spend acts) (unless_broken rules.NotEphemeral (not_ephemeral acts)
      (unless_broken rules.UnevenMessage (uneven_message acts) (unless_broken rules.CreatesTooMuch (creates_too_much acts)
      (unless_broken rules.LacksReservedFee (lacks_reserved_fee acts) (unless_broken rules.NotAttested (pairs-same list j)
      (unless_broken rules.CoinExists (coin_exists scene) (Fine (cost_of terms ledger.peak list) (fee_of list))))))))))))))

  pub verdict-same : (spends : List Spend) → judgement terms ledger spends attested ≡ judgement terms ledger spends others
  unfolding judgement
  verdict-same spends = λ j. unless_broken rules.SpentTwice (spent_twice spends) (with_facts terms ledger.peak [] spends (λ list. judged-same list j))

pub attested-is-a-set : AttestedIsASet
attested-is-a-set terms ledger spends attested others same = verdict-same terms ledger attested others same spends
