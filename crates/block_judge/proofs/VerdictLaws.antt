-- The judgement by what is found broken.
use Rattle.std.proofs.Common.{◌≡◌, ℕ, Option, Some, None, List, [], refl, ap, sym, ◌∙◌}
use Rattle.block_spec.specs.declared.spend.Spend.{Spend}
use Rattle.block_spec.specs.declared.attested.Signed.{Signed}
use Rattle.chain_spec.specs.Chain.{Ledger}
use Rattle.cond_spec.specs.ActRules.{unmade_announcement, absent_spend, not_ephemeral, uneven_message, creates_too_much, lacks_reserved_fee}
use Rattle.judge_spec.specs.declared.rule.Rule.{Rule}
use Rattle.judge_spec.specs.declared.rule.Rule.TheVariants as rules
use Rattle.judge_spec.specs.Rules.{number_of}
use Rattle.judge_spec.specs.Facts.{Facts}
use Rattle.judge_spec.specs.Checks.{Terms, Scene, first_spend, is_unknown, is_spent_in_chain, has_wrong_birth, is_too_early, is_too_late, is_not_attested, coin_exists, acts_in}
use Rattle.judge_spec.specs.Judgement.{Verdict, Fine, Broken, unless_broken, cost_of, fee_of, spends_in, spent_twice, judged, with_facts, with_costs, judgement, judgement_of_facts}
use Rattle.judge_spec.specs.JudgeLaws.{scene_of}
use Rattle.block_judge.specs.declared.verdict.Breach.{Breach}
use Rattle.block_judge.specs.Breaches.{broken_or, or_else, verdict_or, scene_on, breach_of_coins, breach_together, breach_of}

through : (rule : Rule) (place : Option ℕ) (behind : Option Breach) (rest verdict : Verdict) → rest ≡ verdict_or behind verdict
    → unless_broken rule place rest ≡ verdict_or (broken_or rule place behind) verdict
through rule None behind rest verdict e = e
through rule (Some place) behind rest verdict e = refl

both : (a b : Option Breach) (verdict : Verdict) → verdict_or a (verdict_or b verdict) ≡ verdict_or (or_else a b) verdict
both None b verdict = refl
both (Some breach) b verdict = refl

module _ (scene : Scene) where
  abbrev fine : Verdict
  fine = Fine (cost_of scene.terms scene.ledger.peak scene.list) (fee_of scene.list)

  abbrev last_two : Option Breach
  last_two = broken_or rules.NotAttested (first_spend is_not_attested scene) (broken_or rules.CoinExists (coin_exists scene) None)

  by-coins : (rest : Verdict)
      → unless_broken rules.UnknownCoin (first_spend is_unknown scene) (unless_broken rules.SpentInChain (first_spend is_spent_in_chain scene)
      (unless_broken rules.WrongBirth (first_spend has_wrong_birth scene) (unless_broken rules.TooEarly (first_spend is_too_early scene)
      (unless_broken rules.TooLate (first_spend is_too_late scene) rest)))) ≡ verdict_or (breach_of_coins scene) rest
  by-coins rest =
      through rules.UnknownCoin (first_spend is_unknown scene) _ _ rest (through rules.SpentInChain (first_spend is_spent_in_chain scene) _ _ rest
      (through rules.WrongBirth (first_spend has_wrong_birth scene) _ _ rest (through rules.TooEarly (first_spend is_too_early scene) _ _ rest
      (through rules.TooLate (first_spend is_too_late scene) None rest rest refl))))

  by-acts : (rest : Verdict)
      → unless_broken rules.UnmadeAnnouncement (unmade_announcement (acts_in scene)) (unless_broken rules.AbsentSpend (absent_spend (acts_in scene))
      (unless_broken rules.NotEphemeral (not_ephemeral (acts_in scene)) (unless_broken rules.UnevenMessage (uneven_message (acts_in scene))
      (unless_broken rules.CreatesTooMuch (creates_too_much (acts_in scene)) (unless_broken rules.LacksReservedFee (lacks_reserved_fee (acts_in scene)) rest)))))
      ≡ verdict_or (breach_together (acts_in scene)) rest
  by-acts rest =
      through rules.UnmadeAnnouncement (unmade_announcement (acts_in scene)) _ _ rest (through rules.AbsentSpend (absent_spend (acts_in scene)) _ _ rest
      (through rules.NotEphemeral (not_ephemeral (acts_in scene)) _ _ rest (through rules.UnevenMessage (uneven_message (acts_in scene)) _ _ rest
      (through rules.CreatesTooMuch (creates_too_much (acts_in scene)) _ _ rest (through rules.LacksReservedFee (lacks_reserved_fee (acts_in scene)) None rest rest refl)))))

  by-rest : unless_broken rules.NotAttested (first_spend is_not_attested scene) (unless_broken rules.CoinExists (coin_exists scene) fine) ≡ verdict_or last_two fine
  by-rest = through rules.NotAttested (first_spend is_not_attested scene) _ _ fine (through rules.CoinExists (coin_exists scene) None fine fine refl)

  pub judged-is : judged scene ≡ verdict_or (breach_of scene) fine
  judged-is =
      by-coins _ ∙ ap (verdict_or (breach_of_coins scene)) (by-acts _ ∙ ap (verdict_or (breach_together (acts_in scene))) by-rest ∙ both (breach_together (acts_in scene)) last_two fine)
      ∙ both (breach_of_coins scene) (or_else (breach_together (acts_in scene)) last_two) fine

-- What a breach that is found says, or none.
pub judged-broken : (scene : Scene) (breach : Breach) → Some breach ≡ breach_of scene → Broken breach.rule breach.place ≡ judged scene
judged-broken scene breach e = ap (λ found. verdict_or found (fine scene)) e ∙ sym (judged-is scene)

pub judged-fine : (scene : Scene) → None ≡ breach_of scene → fine scene ≡ judged scene
judged-fine scene e = ap (λ found. verdict_or found (fine scene)) e ∙ sym (judged-is scene)

module _ (terms : Terms) (ledger : Ledger) (attested : List Signed) where
  pub is-twice : (spends : List Spend) (place : ℕ) → spent_twice spends ≡ Some place → judgement terms ledger spends attested ≡ Broken (number_of rules.SpentTwice) place
  unfolding judgement
  is-twice spends place e = ap (λ found. unless_broken rules.SpentTwice found (with_facts terms ledger.peak [] spends (λ list. judged (scene_of terms ledger list attested)))) e

  pub is-once : (spends : List Spend) → spent_twice spends ≡ None → judgement terms ledger spends attested ≡ with_facts terms ledger.peak [] spends (λ list. judged (scene_of terms ledger list attested))
  unfolding judgement
  is-once spends e = ap (λ found. unless_broken rules.SpentTwice found (with_facts terms ledger.peak [] spends (λ list. judged (scene_of terms ledger list attested)))) e

  pub are-twice : (list : List Facts) (place : ℕ) → spent_twice (spends_in list) ≡ Some place → judgement_of_facts terms ledger list attested ≡ Broken (number_of rules.SpentTwice) place
  unfolding judgement_of_facts
  are-twice list place e = ap (λ found. unless_broken rules.SpentTwice found (with_costs terms ledger.peak [] list (judged (scene_of terms ledger list attested)))) e

  pub are-once : (list : List Facts) → spent_twice (spends_in list) ≡ None → judgement_of_facts terms ledger list attested ≡ with_costs terms ledger.peak [] list (judged (scene_of terms ledger list attested))
  unfolding judgement_of_facts
  are-once list e = ap (λ found. unless_broken rules.SpentTwice found (with_costs terms ledger.peak [] list (judged (scene_of terms ledger list attested)))) e
