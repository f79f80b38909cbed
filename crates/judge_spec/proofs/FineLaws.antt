-- What a Fine verdict says.
use Rattle.std.proofs.Common.{◌≡◌, ℕ, ◌≤◌, Bool, true, false, nat_lt, if◌then◌else◌, Option, Some, None, List, [], ◌∷◌, ◌++◌, length, refl, subst, append_assoc, arith}
use Rattle.std.proofs.lemmas.Bool.Decides.{nat_tests}
use Rattle.chain_spec.specs.declared.chain.Peak.{Peak}
use Rattle.judge_spec.specs.declared.rule.Rule.{Rule}
use Rattle.judge_spec.specs.declared.rule.Rule.TheVariants.{SpentTwice, TooCostly}
use Rattle.judge_spec.specs.Rules.{number_of}
use Rattle.judge_spec.specs.Facts.{Facts}
use Rattle.judge_spec.specs.Checks.{Terms, Scene, Check}
use Rattle.judge_spec.specs.Judgement.{Verdict, Fine, Broken, unless_broken, first_broken, spends_in, cost_of, fee_of, spent_twice, judged, with_costs, judgement_of_facts}
use Rattle.judge_spec.specs.JudgeLaws.{AreKept, all_checks, scene_of, FineIsKept, FineIsWithinTheLimit, NewCoinsLast}

pub unbroken : (rule : Rule) (place : Option ℕ) (verdict : Verdict) (cost fee : ℕ) → unless_broken rule place verdict ≡ Fine cost fee → (place ≡ None) × (verdict ≡ Fine cost fee)
unbroken rule None verdict cost fee e = (refl, e)
unbroken rule (Some place) verdict cost fee e = cc

kept : (scene : Scene) (checks : List Check) (verdict : Verdict) (cost fee : ℕ) → first_broken checks scene verdict ≡ Fine cost fee → AreKept scene checks × (verdict ≡ Fine cost fee)
kept scene [] verdict cost fee e = (tt, e)
kept scene (check ∷ checks) verdict cost fee e =
    let here = unbroken check.rule (check.broken_at scene) (first_broken checks scene verdict) cost fee e in
    let others = kept scene checks verdict cost fee here.1 in
    ((here.0, others.0), others.1)

pub within-one : (over : Bool) (place : ℕ) (verdict : Verdict) (cost fee : ℕ) → (if over then Broken (number_of TooCostly) place else verdict) ≡ Fine cost fee → (over ≡ false) × (verdict ≡ Fine cost fee)
within-one true place verdict cost fee e = cc
within-one false place verdict cost fee e = (refl, e)

costs-kept : (terms : Terms) (peak : Peak) (earlier list : List Facts) (verdict : Verdict) (cost fee : ℕ) → with_costs terms peak earlier list verdict ≡ Fine cost fee → verdict ≡ Fine cost fee
costs-kept terms peak earlier [] verdict cost fee e = e
costs-kept terms peak earlier (facts ∷ list) verdict cost fee e =
    costs-kept terms peak (earlier ++ facts ∷ []) list verdict cost fee
    (within-one (nat_lt terms.limit (cost_of terms peak (earlier ++ facts ∷ []))) (length earlier) (with_costs terms peak (earlier ++ facts ∷ []) list verdict) cost fee e).1

not-over : (limit cost : ℕ) → nat_lt limit cost ≡ false → cost ≤ limit
not-over limit cost e = grind (arith, nat_tests)

costs-within : (terms : Terms) (peak : Peak) (earlier : List Facts) (facts : Facts) (list : List Facts) (verdict : Verdict) (cost fee : ℕ)
    → with_costs terms peak earlier (facts ∷ list) verdict ≡ Fine cost fee → cost_of terms peak (earlier ++ facts ∷ list) ≤ terms.limit
costs-within terms peak earlier facts [] verdict cost fee e =
    not-over terms.limit (cost_of terms peak (earlier ++ facts ∷ []))
    (within-one (nat_lt terms.limit (cost_of terms peak (earlier ++ facts ∷ []))) (length earlier) (with_costs terms peak (earlier ++ facts ∷ []) [] verdict) cost fee e).0
costs-within terms peak earlier facts (next ∷ list) verdict cost fee e =
    let more = (within-one (nat_lt terms.limit (cost_of terms peak (earlier ++ facts ∷ []))) (length earlier) (with_costs terms peak (earlier ++ facts ∷ []) (next ∷ list) verdict) cost fee e).1 in
    subst (λ all. cost_of terms peak all ≤ terms.limit) (append_assoc earlier (facts ∷ []) (next ∷ list))
    (costs-within terms peak (earlier ++ facts ∷ []) next list verdict cost fee more)

pub fine-is-kept : FineIsKept
unfolding judgement_of_facts
fine-is-kept terms ledger list attested cost fee e =
    let scene = scene_of terms ledger list attested in
    let fine = Fine (cost_of terms ledger.peak list) (fee_of list) in
    let once = unbroken SpentTwice (spent_twice (spends_in list)) (with_costs terms ledger.peak [] list (judged scene)) cost fee e in
    let all = costs-kept terms ledger.peak [] list (judged scene) cost fee once.1 in
    let asked = kept scene all_checks fine cost fee all in
    (once.0, asked.0, asked.1)

pub fine-is-within : FineIsWithinTheLimit
unfolding judgement_of_facts
fine-is-within terms ledger facts list attested cost fee e =
    let scene = scene_of terms ledger (facts ∷ list) attested in
    let once = unbroken SpentTwice (spent_twice (spends_in (facts ∷ list))) (with_costs terms ledger.peak [] (facts ∷ list) (judged scene)) cost fee e in
    costs-within terms ledger.peak [] facts list (judged scene) cost fee once.1

pub new-coins-last : NewCoinsLast
new-coins-last scene = refl
