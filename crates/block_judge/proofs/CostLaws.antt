-- The running cost of a list, one spend after another.
use Rattle.std.proofs.Common.{◌≡◌, ℕ, ◌+◌, ◌<◌, Bool, true, false, nat_lt, if◌then◌else◌, Option, Some, None, Result, Ok, Err, List, [], ◌∷◌, ◌++◌, length, take, drop, get_or, refl, ap, sym, ◌∙◌, arith}
use Rattle.std.specs.List.{sum_by}
use Rattle.std.proofs.lemmas.List.{map-append, take_more, at_drop_more, length-take}
use Rattle.std.proofs.lemmas.List.Sums.{sum_by-append, sum_by-cons}
use Rattle.block_spec.specs.declared.spend.Spend.{Spend}
use Rattle.block_spec.specs.Added.{added_bytes, generator_bytes}
use Rattle.block_spec.proofs.AddedLaws.{adds_up}
use Rattle.chain_spec.specs.declared.chain.Peak.{Peak}
use Rattle.judge_spec.specs.declared.rule.Rule.TheVariants.{TooCostly}
use Rattle.judge_spec.specs.Rules.{number_of}
use Rattle.judge_spec.specs.Facts.{Facts, Breach, facts_of}
use Rattle.judge_spec.specs.Judgement.{Verdict, Broken, charged, spends_in, cost_of, within_limit, if_facts, with_facts, with_costs}
use Rattle.spend_run.specs.declared.fault.SpendFault.{SpendFault}
use Rattle.spend_run.specs.declared.fault.SpendFault.TheVariants.{PuzzleHash, Failed, Spent, Wide, Malformed, Unknown, SameOutput, OwnFact, OutOfMemory}
use Rattle.spend_run.specs.Breaches.{IsBreach}
use Rattle.block_judge.specs.declared.costs.Stop.{Stop}
use Rattle.block_judge.specs.declared.costs.Stop.TheVariants as stops
use Rattle.block_judge.specs.Costs.{added_cost, grown_cost, IsStop, IsToldBy, stop_of}
use Rattle.block_judge.specs.declared.verdict.Verdict as seen
use Rattle.block_judge.specs.Verdicts.{told, terms_within}

-- one spend more
pub cost_of-push : (limit : ℕ) (peak : Peak) (list : List Facts) (facts : Facts) → cost_of (terms_within limit) peak list + added_cost peak facts ≡ cost_of (terms_within limit) peak (list ++ facts ∷ [])
cost_of-push limit peak list facts =
    let before = adds_up (spends_in list) in
    let after = adds_up (spends_in list ++ facts.spend ∷ []) in
    let whole : generator_bytes (spends_in (list ++ facts ∷ [])) ≡ generator_bytes (spends_in list ++ facts.spend ∷ []) = ap generator_bytes (map-append (λ f. f.spend) list (facts ∷ [])) in
    let bytes = sum_by-append added_bytes (spends_in list) (facts.spend ∷ []) ∙ ap (λ n. sum_by added_bytes (spends_in list) + n) (sum_by-cons added_bytes facts.spend []) in
    let runs = sum_by-append (λ f. f.cost) list (facts ∷ []) ∙ ap (λ n. sum_by (λ f. f.cost) list + n) (sum_by-cons (λ f. f.cost) facts []) in
    omega arith

keeps : (over : Bool) (all grown : ℕ) → Some grown ≡ (if over then None else Some all) → (grown ≡ all) × ((stop verdict : Verdict) → (if over then stop else verdict) ≡ verdict)
keeps true all grown e = cc
keeps false all grown e = (cc, λ stop verdict. refl)

over-all : (over : Bool) (all : ℕ) (stop verdict : Verdict) → None ≡ (if over then None else Some all) → (if over then stop else verdict) ≡ stop
over-all true all stop verdict e = refl
over-all false all stop verdict e = cc

module _ (limit : ℕ) (peak : Peak) (cost : ℕ) (earlier : List Facts) (facts : Facts) (is : cost ≡ cost_of (terms_within limit) peak earlier) where
  abbrev all : ℕ
  all = cost_of (terms_within limit) peak (earlier ++ facts ∷ [])

  whole : cost + added_cost peak facts ≡ all
  whole = ap (λ n. n + added_cost peak facts) is ∙ cost_of-push limit peak earlier facts

  by-whole : grown_cost limit peak cost facts ≡ (if nat_lt limit all then None else Some all)
  by-whole = ap (λ n. if nat_lt limit n then None else Some n) whole

  pub goes-on : (grown : ℕ) → Some grown ≡ grown_cost limit peak cost facts
      → (grown ≡ all) × ((verdict : Verdict) → within_limit (terms_within limit) peak earlier facts verdict ≡ verdict)
  goes-on grown e =
      let kept = keeps (nat_lt limit all) all grown (e ∙ by-whole) in
      (kept.0, λ verdict. kept.1 (Broken (number_of TooCostly) (length earlier)) verdict)

  pub ends : (verdict : Verdict) → None ≡ grown_cost limit peak cost facts → within_limit (terms_within limit) peak earlier facts verdict ≡ Broken (number_of TooCostly) (length earlier)
  ends verdict e = over-all (nat_lt limit all) all (Broken (number_of TooCostly) (length earlier)) verdict (e ∙ by-whole)

-- ---- one spend after another

module _ (limit : ℕ) (peak : Peak) (list : List Facts) (place : ℕ) (facts : Facts) (within : place < length list) (there : facts ≡ get_or list place facts) where
  abbrev before : List Facts
  before = take place list

  abbrev behind : List Facts
  behind = drop (place + 1) list

  long : length before ≡ place
  long = omega (arith, length-take place list)

  longer : before ++ facts ∷ [] ≡ take (place + 1) list
  longer = ap (λ f. before ++ f ∷ []) there ∙ sym (take_more list place facts within)

  walked : (verdict : Verdict) → with_costs (terms_within limit) peak before (drop place list) verdict
      ≡ within_limit (terms_within limit) peak before facts (with_costs (terms_within limit) peak (take (place + 1) list) behind verdict)
  walked verdict =
      at_drop_more (λ more. with_costs (terms_within limit) peak before more verdict) list place facts within
      ∙ ap (λ f. within_limit (terms_within limit) peak before f (with_costs (terms_within limit) peak (before ++ f ∷ []) behind verdict)) (sym there)
      ∙ ap (λ more. within_limit (terms_within limit) peak before facts (with_costs (terms_within limit) peak more behind verdict)) longer

  -- The cost goes on with one spend more.
  pub costs-go-on : (cost grown : ℕ) → cost ≡ cost_of (terms_within limit) peak before → Some grown ≡ grown_cost limit peak cost facts
      → (grown ≡ cost_of (terms_within limit) peak (take (place + 1) list))
      × ((verdict : Verdict) → with_costs (terms_within limit) peak before (drop place list) verdict ≡ with_costs (terms_within limit) peak (take (place + 1) list) behind verdict)
  costs-go-on cost grown is e =
      let goes = goes-on limit peak cost before facts is grown e in
      (goes.0 ∙ ap (cost_of (terms_within limit) peak) longer, λ verdict. walked verdict ∙ goes.1 (with_costs (terms_within limit) peak (take (place + 1) list) behind verdict))

  -- Or the list costs too much with it.
  pub costs-end : (cost : ℕ) (verdict : Verdict) → cost ≡ cost_of (terms_within limit) peak before → None ≡ grown_cost limit peak cost facts
      → with_costs (terms_within limit) peak before (drop place list) verdict ≡ Broken (number_of TooCostly) place
  costs-end cost verdict is e =
      walked verdict ∙ ends limit peak cost before facts is (with_costs (terms_within limit) peak (take (place + 1) list) behind verdict) e
      ∙ ap (Broken (number_of TooCostly)) long

module _ (limit : ℕ) (peak : Peak) (earlier : List Facts) (spends : List Spend) (place : ℕ) (spend : Spend) (within : place < length spends) (there : spend ≡ get_or spends place spend) where
  abbrev after : List Spend
  after = drop (place + 1) spends

  abbrev step : (List Facts → Verdict) → Facts → Verdict
  step go facts = within_limit (terms_within limit) peak earlier facts (with_facts (terms_within limit) peak (earlier ++ facts ∷ []) after go)

  opened : (go : List Facts → Verdict) → with_facts (terms_within limit) peak earlier (drop place spends) go ≡ if_facts (length earlier) (facts_of limit spend) (step go)
  opened go =
      at_drop_more (λ more. with_facts (terms_within limit) peak earlier more go) spends place spend within
      ∙ ap (λ s. if_facts (length earlier) (facts_of limit s) (step go)) (sym there)

  -- The facts of one spend more are found.
  pub facts-go-on : (facts : Facts) (cost grown : ℕ) → facts_of limit spend ≡ Ok facts → cost ≡ cost_of (terms_within limit) peak earlier → Some grown ≡ grown_cost limit peak cost facts
      → (go : List Facts → Verdict) → with_facts (terms_within limit) peak earlier (drop place spends) go ≡ with_facts (terms_within limit) peak (earlier ++ facts ∷ []) after go
  facts-go-on facts cost grown found is e go =
      opened go ∙ ap (λ found. if_facts (length earlier) found (step go)) found
      ∙ (goes-on limit peak cost earlier facts is grown e).1 (with_facts (terms_within limit) peak (earlier ++ facts ∷ []) after go)

  -- Or the list costs too much with it.
  pub facts-end : (facts : Facts) (cost : ℕ) → facts_of limit spend ≡ Ok facts → cost ≡ cost_of (terms_within limit) peak earlier → None ≡ grown_cost limit peak cost facts
      → (go : List Facts → Verdict) → with_facts (terms_within limit) peak earlier (drop place spends) go ≡ Broken (number_of TooCostly) (length earlier)
  facts-end facts cost found is e go =
      opened go ∙ ap (λ found. if_facts (length earlier) found (step go)) found
      ∙ ends limit peak cost earlier facts is (with_facts (terms_within limit) peak (earlier ++ facts ∷ []) after go) e

  -- Or it breaks a rule of one spend.
  pub facts-stop : (fault : SpendFault) → IsBreach (facts_of limit spend) fault → IsStop (with_facts (terms_within limit) peak earlier (drop place spends)) (stop_of fault (length earlier))
  facts-stop PuzzleHash is = λ go. opened go ∙ ap (λ found. if_facts (length earlier) found (step go)) is
  facts-stop Failed is = λ go. opened go ∙ ap (λ found. if_facts (length earlier) found (step go)) is
  facts-stop Spent is = λ go. opened go ∙ ap (λ found. if_facts (length earlier) found (step go)) is
  facts-stop Wide is = λ go. opened go ∙ ap (λ found. if_facts (length earlier) found (step go)) is
  facts-stop (Malformed at) is = λ go. opened go ∙ ap (λ found. if_facts (length earlier) found (step go)) is
  facts-stop (Unknown at) is = λ go. opened go ∙ ap (λ found. if_facts (length earlier) found (step go)) is
  facts-stop (SameOutput at) is = λ go. opened go ∙ ap (λ found. if_facts (length earlier) found (step go)) is
  facts-stop (OwnFact at) is = λ go. opened go ∙ ap (λ found. if_facts (length earlier) found (step go)) is
  facts-stop OutOfMemory is = tt

-- What stops one walk stops one that is the same.
pub same-stop : (judged other : (List Facts → Verdict) → Verdict) → ((go : List Facts → Verdict) → judged go ≡ other go) → (stop : Stop) → IsStop judged stop → IsStop other stop
same-stop judged other same (stops.Broken breach) is = λ go. sym (same go) ∙ is go
same-stop judged other same stops.OutOfMemory is = tt

-- The verdict of a stop is that of what stopped.
pub told-stop : (judged : (List Facts → Verdict) → Verdict) (go : List Facts → Verdict) (stop : Stop) (verdict : seen.Verdict) → IsStop judged stop → IsToldBy stop verdict → told verdict ≡ judged go
told-stop judged go (stops.Broken breach) verdict is by = by ∙ sym (is go)
told-stop judged go stops.OutOfMemory verdict is by = absurd by
