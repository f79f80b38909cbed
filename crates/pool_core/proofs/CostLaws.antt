-- The cost of a list, one spend after another.
use Rattle.std.proofs.Common.{◌≡◌, ℕ, ◌+◌, ◌<◌, ◌≤◌, Bool, true, false, nat_lt, if◌then◌else◌, List, [], ◌∷◌, ◌++◌, length, take, drop, get_or, Result, Ok, Err, refl, ap, sym, ◌∙◌, subst, arith}
use Rattle.std.specs.Prelude.{MatchResult}
use Rattle.std.specs.List.{sum_by}
use Rattle.std.proofs.lemmas.List.{take_more, at_drop_more, length-take}
use Rattle.std.proofs.lemmas.List.Sums.{sum_by-append, sum_by-cons}
use Rattle.std.proofs.lemmas.Bool.Decides.{nat_tests}
use Rattle.block_spec.specs.declared.spend.Spend.{Spend}
use Rattle.block_spec.specs.Added.{added_bytes}
use Rattle.block_spec.proofs.AddedLaws.{adds_up}
use Rattle.judge_spec.specs.declared.rule.Rule.{Rule}
use Rattle.judge_spec.specs.declared.rule.Rule.TheVariants.{WrongPuzzleHash, TooCostly}
use Rattle.judge_spec.specs.Rules.{number_of}
use Rattle.pool_spec.specs.FirstJudgement.{Verdict, Broken, facts_or_none, has_its_puzzle, cost_of, spend_by_spend}
use Rattle.pool_core.specs.Costs.{added_cost, grown_cost}

-- one spend more
pub cost_of-push : (spends : List Spend) (spend : Spend) → cost_of (spends ++ spend ∷ []) ≡ cost_of spends + added_cost spend
cost_of-push spends spend =
    let before = adds_up spends in
    let after = adds_up (spends ++ spend ∷ []) in
    let bytes = sum_by-append added_bytes spends (spend ∷ []) ∙ ap (λ n. sum_by added_bytes spends + n) (sum_by-cons added_bytes spend []) in
    let runs = sum_by-append (λ s. (facts_or_none s).cost) spends (spend ∷ []) ∙ ap (λ n. sum_by (λ s. (facts_or_none s).cost) spends + n) (sum_by-cons (λ s. (facts_or_none s).cost) spend []) in
    omega arith

le_from_not_lt : (a b : ℕ) → nat_lt a b ≡ false → b ≤ a
le_from_not_lt a b h = grind (arith, nat_tests)

-- what comes of a spend by the tests of the rules 3 and 5
abbrev by_tests : Bool → Bool → ℕ → Verdict → Verdict
by_tests fits over length after = if fits then (if over then Broken (number_of TooCostly) length else after) else Broken (number_of WrongPuzzleHash) length

abbrev Outcome : ℕ → ℕ → ℕ → Verdict → Verdict → Result ℕ Rule → Type 0
Outcome limit all place here next grown =
    MatchResult grown (λ cost. (cost ≡ all) × (cost ≤ limit) × (here ≡ next)) (λ rule. here ≡ Broken (number_of rule) place)

outcome : (fits over : Bool) (limit n all place : ℕ) (next : Verdict) → n ≡ all → (over ≡ false → n ≤ limit)
    → Outcome limit all place (by_tests fits over place next) next (if fits then (if over then Err TooCostly else Ok n) else Err WrongPuzzleHash)
outcome true true limit n all place next e h = refl
outcome true false limit n all place next e h = (e, h refl, refl)
outcome false over limit n all place next e h = refl

one_step : (limit : ℕ) (earlier rest : List Spend) (spend : Spend) (after : Verdict)
    → Outcome limit (cost_of (earlier ++ spend ∷ [])) (length earlier) (spend_by_spend limit earlier (spend ∷ rest) after) (spend_by_spend limit (earlier ++ spend ∷ []) rest after) (grown_cost limit (cost_of earlier) spend)
one_step limit earlier rest spend after =
    let all = cost_of (earlier ++ spend ∷ []) in
    let pushed = cost_of-push earlier spend in
    subst (λ n. Outcome limit all (length earlier) (spend_by_spend limit earlier (spend ∷ rest) after) (spend_by_spend limit (earlier ++ spend ∷ []) rest after) (if has_its_puzzle spend then (if nat_lt limit n then Err TooCostly else Ok n) else Err WrongPuzzleHash)) pushed
    (outcome (has_its_puzzle spend) (nat_lt limit all) limit all all (length earlier) (spend_by_spend limit (earlier ++ spend ∷ []) rest after) refl (le_from_not_lt limit all))

module _ (limit : ℕ) (spends : List Spend) (place : ℕ) (spend : Spend) (after : Verdict) (within : place < length spends) (there : spend ≡ get_or spends place spend) where
  walk : ℕ → Verdict
  walk n = spend_by_spend limit (take n spends) (drop n spends) after

  here_step : Outcome limit (cost_of (take (place + 1) spends)) place (walk place) (walk (place + 1)) (grown_cost limit (cost_of (take place spends)) spend)
  unfolding walk
  here_step =
      let earlier = take place spends in
      let rest = drop (place + 1) spends in
      let long : length earlier ≡ place = omega (arith, length-take place spends) in
      let longer : earlier ++ spend ∷ [] ≡ take (place + 1) spends = ap (λ s. earlier ++ s ∷ []) there ∙ sym (take_more spends place spend within) in
      let opened : spend_by_spend limit earlier (spend ∷ rest) after ≡ walk place = ap (λ s. spend_by_spend limit earlier (s ∷ rest) after) there ∙ sym (at_drop_more (λ more. spend_by_spend limit earlier more after) spends place spend within) in
      subst (λ v. Outcome limit (cost_of (take (place + 1) spends)) place v (walk (place + 1)) (grown_cost limit (cost_of earlier) spend)) opened
      (subst (λ n. Outcome limit (cost_of (take (place + 1) spends)) n (spend_by_spend limit earlier (spend ∷ rest) after) (walk (place + 1)) (grown_cost limit (cost_of earlier) spend)) long
      (subst (λ more. Outcome limit (cost_of more) (length earlier) (spend_by_spend limit earlier (spend ∷ rest) after) (spend_by_spend limit more rest after) (grown_cost limit (cost_of earlier) spend)) longer
      (one_step limit earlier rest spend after)))

  pub goes_on : (cost grown : ℕ) → cost ≡ cost_of (take place spends) → Ok grown ≡ grown_cost limit cost spend
      → (grown ≡ cost_of (take (place + 1) spends)) × (grown ≤ limit) × (spend_by_spend limit (take place spends) (drop place spends) after ≡ spend_by_spend limit (take (place + 1) spends) (drop (place + 1) spends) after)
  unfolding walk
  goes_on cost grown is e =
      subst (Outcome limit (cost_of (take (place + 1) spends)) place (walk place) (walk (place + 1))) (sym (e ∙ ap (λ n. grown_cost limit n spend) is)) here_step

  pub stops : (cost : ℕ) (rule : Rule) → cost ≡ cost_of (take place spends) → Err rule ≡ grown_cost limit cost spend
      → spend_by_spend limit (take place spends) (drop place spends) after ≡ Broken (number_of rule) place
  unfolding walk
  stops cost rule is e =
      subst (Outcome limit (cost_of (take (place + 1) spends)) place (walk place) (walk (place + 1))) (sym (e ∙ ap (λ n. grown_cost limit n spend) is)) here_step
