-- Facts with more and with less of a limit, and verdicts by facts.
use Rattle.std.proofs.Common.{◌≡◌, ℕ, ◌+◌, ◌<◌, ◌≤◌, ◌⊎◌, inl, inr, Bool, true, false, nat_lt, if◌then◌else◌, Option, Some, None, Result, Ok, Err, List, [], ◌∷◌, ◌++◌, length, refl, ap, sym, ◌∙◌, arith, append_assoc}
use Rattle.std.proofs.lemmas.Bool.Decides.{nat_tests}
use Rattle.std.proofs.lemmas.List.{append-nil}
use Rattle.std.proofs.lemmas.List.Sums.{sum_by-append, sum_by-cons}
use Rattle.clvm_spec.specs.declared.fuel.Fuel.{Fuel}
use Rattle.clvm_spec.specs.declared.fuel.Which.{Which}
use Rattle.clvm_spec.specs.Tree.{Tree}
use Rattle.clvm_spec.specs.Outcomes.{Outcome, Done, Failed, Spent, Wide}
use Rattle.clvm_spec.specs.Spending.{fuel_less}
use Rattle.clvm_spec.specs.Evaluation.{run_cost, fuel_of}
use Rattle.clvm_spec.specs.FuelLaws.{IsAtLeast}
use Rattle.clvm_spec.proofs.SpendingLaws.{covers, covered}
use Rattle.clvm_spec.proofs.Steps.{done_law, failures_law, wide_law}
use Rattle.clvm_spec.specs.Spelled.{spelled_tree}
use Rattle.block_spec.specs.declared.spend.Spend.{Spend}
use Rattle.chain_spec.specs.declared.chain.Peak.{Peak}
use Rattle.cond_spec.specs.Conditions.{Listing, Lists, MalformedAt, UnknownAt, conditions_of, cost_of_conditions}
use Rattle.cond_spec.specs.ActRules.{same_output, wrong_own_fact}
use Rattle.judge_spec.specs.declared.rule.Rule.TheVariants.{SpentTwice, TooCostly}
use Rattle.judge_spec.specs.Rules.{number_of}
use Rattle.judge_spec.specs.Facts.{Facts, acts_of, Breach, OtherPuzzle, RunSpends, SameOutput, OwnFact, unless_at, of_listing, of_run, run_of, has_its_puzzle, facts_of}
use Rattle.judge_spec.specs.Checks.{Terms}
use Rattle.judge_spec.specs.Judgement.{Verdict, Broken, unless_broken, charged, spends_in, cost_of, spent_twice, judged, within_limit, if_facts, with_facts, with_costs, judgement, judgement_of_facts}
use Rattle.judge_spec.specs.JudgeLaws.{FactsKeep, FactsOrSpent, AreFound, FactsDecide}

-- the run with another limit, with the same value at the same cost
record KeptRun (limit more : ℕ) (spend : Spend) (value : Tree) (left : Fuel) : Type 0 where
  after : Fuel
  is : run_of more spend ≡ Done value after
  same : run_cost (fuel_of more) after ≡ run_cost (fuel_of limit) left

-- whatever the other limit is, where it covers what the run costs
kept-run : (limit more : ℕ) (spend : Spend) (value : Tree) (left : Fuel) → run_cost (fuel_of limit) left ≤ more → run_of limit spend ≡ Done value left → KeptRun limit more spend value left
kept-run limit more spend value left enough e =
    let law = done_law (spelled_tree spend.puzzle) (spelled_tree spend.solution) 0 (fuel_of limit) left value e in
    let spending = law.0 in
    let held = covers (fuel_of limit) spending law.1 in
    let within = held.cost in
    let cost = ap (λ fuel. fuel.cost) law.2 in
    let paid : spending.cost ≤ more = omega arith in
    record {
      after = fuel_less spending (fuel_of more);
      is = law.3 (fuel_of more) (covered (fuel_of more) spending (record { cost = paid; pairs = held.pairs; bytes = held.bytes })) (omega arith);
      same = omega arith;
    }

cost-within : (limit : ℕ) (left : Fuel) → run_cost (fuel_of limit) left ≤ limit
cost-within limit left = omega arith

-- ---- more of a limit

if_fits : Bool → Result Facts Breach → Result Facts Breach
if_fits fits found = if fits then found else Err OtherPuzzle

keep-by : (limit more : ℕ) (spend : Spend) (facts : Facts) (fits : Bool) (o : Outcome) → limit ≤ more → run_of limit spend ≡ o
    → if_fits fits (of_run limit spend o) ≡ Ok facts → if_fits fits (of_run more spend (run_of more spend)) ≡ Ok facts
unfolding if_fits
keep-by limit more spend facts false o large is e = cc
keep-by limit more spend facts true (Done value left) large is e =
    let spent = cost-within limit left in
    let kept = kept-run limit more spend value left (omega arith) is in
    ap (of_run more spend) kept.is ∙ ap (λ run. of_listing spend run (conditions_of value)) kept.same ∙ e
keep-by limit more spend facts true (Failed why form) large is e = cc
keep-by limit more spend facts true (Spent which) large is e = cc
keep-by limit more spend facts true Wide large is e = cc

pub facts-keep : FactsKeep
unfolding facts_of if_fits
facts-keep limit more spend facts large e = keep-by limit more spend facts (has_its_puzzle spend) (run_of limit spend) large refl e

-- ---- less of a limit

at-least : (limit more : ℕ) → limit ≤ more → IsAtLeast (fuel_of more) (fuel_of limit)
at-least limit more large = record { cost = large; pairs = omega arith; bytes = omega arith; depth = omega arith }

pub unless-cost : (breach : ℕ → Breach) (place : Option ℕ) (found : Result Facts Breach) (facts : Facts) → unless_at breach place found ≡ Ok facts → found ≡ Ok facts
unless-cost breach None found facts e = e
unless-cost breach (Some place) found facts e = cc

cost_in : Result Facts Breach → ℕ
cost_in (Ok facts) = facts.cost
cost_in (Err breach) = 0

-- Facts cost at least their run.
run-within : (spend : Spend) (run : ℕ) (listing : Listing) (facts : Facts) → of_listing spend run listing ≡ Ok facts → run ≤ facts.cost
unfolding cost_in
run-within spend run (Lists conditions) facts e =
    let made : Facts = record { spend = spend; cost = run + cost_of_conditions conditions; conditions = conditions } in
    let inner = unless-cost SameOutput (same_output (acts_of made)) (unless_at OwnFact (wrong_own_fact (acts_of made)) (Ok made)) facts e in
    let same = ap cost_in (unless-cost OwnFact (wrong_own_fact (acts_of made)) (Ok made) facts inner) in
    omega arith
run-within spend run (MalformedAt place) facts e = cc
run-within spend run (UnknownAt place) facts e = cc

not-done : (value : Tree) (left : Fuel) (which : Which) → ¬ (Done value left ≡ Spent which)
not-done value left which e = cc

-- A run that spends the smaller limit and not the greater one costs more than the smaller.
spent-by : (limit more : ℕ) (spend : Spend) (facts : Facts) (which : Which) (o : Outcome) → run_of limit spend ≡ Spent which → run_of more spend ≡ o
    → of_run more spend o ≡ Ok facts → limit < facts.cost
spent-by limit more spend facts which (Done value left) spent is e =
    by_order (run_cost (fuel_of more) left) (run-within spend (run_cost (fuel_of more) left) (conditions_of value) facts e)
    (λ small. let kept = kept-run more limit spend value left small is in not-done value kept.after which (sym kept.is ∙ spent))
  where
    by_order : (cost : ℕ) → cost ≤ facts.cost → ¬ (cost ≤ limit) → limit < facts.cost
    by_order cost within over = grind (arith, over)
spent-by limit more spend facts which (Failed why form) spent is e = cc
spent-by limit more spend facts which (Spent other) spent is e = cc
spent-by limit more spend facts which Wide spent is e = cc

Less : ℕ → Spend → Facts → Bool → Outcome → Type 0
Less limit spend facts fits o = (if_fits fits (of_run limit spend o) ≡ Ok facts) ⊎ ((if_fits fits (of_run limit spend o) ≡ Err RunSpends) × (limit < facts.cost))

less-by : (limit more : ℕ) (spend : Spend) (facts : Facts) (fits : Bool) (o : Outcome) → limit ≤ more → run_of limit spend ≡ o
    → if_fits fits (of_run more spend (run_of more spend)) ≡ Ok facts → Less limit spend facts fits o
unfolding if_fits Less
less-by limit more spend facts false o large is e = cc
less-by limit more spend facts true (Done value left) large is e =
    let spent = cost-within limit left in
    let kept = kept-run limit more spend value left (omega arith) is in
    inl (ap (λ run. of_listing spend run (conditions_of value)) (sym kept.same) ∙ ap (of_run more spend) (sym kept.is) ∙ e)
less-by limit more spend facts true (Failed why form) large is e =
    let fails = failures_law (spelled_tree spend.puzzle) (spelled_tree spend.solution) 0 (fuel_of limit) (fuel_of more) why form (at-least limit more large) is in
    let found = ap (of_run more spend) (sym fails) ∙ e in
    cc
less-by limit more spend facts true (Spent which) large is e = inr (refl, spent-by limit more spend facts which (run_of more spend) is refl e)
less-by limit more spend facts true Wide large is e =
    let wide = wide_law (spelled_tree spend.puzzle) (spelled_tree spend.solution) 0 (fuel_of limit) (fuel_of more) (at-least limit more large) is in
    let found = ap (of_run more spend) (sym wide) ∙ e in
    cc

pub facts-or-spent : FactsOrSpent
unfolding facts_of if_fits Less
facts-or-spent limit more spend facts large e = less-by limit more spend facts (has_its_puzzle spend) (run_of limit spend) large refl e

-- ---- verdicts

grown-cost : (terms : Terms) (peak : Peak) (earlier : List Facts) (facts : Facts) → facts.cost ≤ cost_of terms peak (earlier ++ facts ∷ [])
grown-cost terms peak earlier facts =
    let one = sum_by-append (charged terms peak) earlier (facts ∷ []) in
    let two = sum_by-cons (charged terms peak) facts [] in
    omega arith

over-limit : (limit cost all : ℕ) → limit < cost → cost ≤ all → nat_lt limit all ≡ true
over-limit limit cost all a b = grind (arith, nat_tests)

decide-one : (terms : Terms) (peak : Peak) (earlier : List Facts) (facts : Facts) (step : Facts → Verdict) (after rest : Verdict)
    → step facts ≡ within_limit terms peak earlier facts after → after ≡ rest
    → (facts_of terms.limit facts.spend ≡ Ok facts) ⊎ ((facts_of terms.limit facts.spend ≡ Err RunSpends) × (terms.limit < facts.cost))
    → if_facts (length earlier) (facts_of terms.limit facts.spend) step ≡ within_limit terms peak earlier facts rest
decide-one terms peak earlier facts step after rest is same (inl found) =
    ap (λ found. if_facts (length earlier) found step) found ∙ is ∙ ap (within_limit terms peak earlier facts) same
decide-one terms peak earlier facts step after rest is same (inr spent) =
    ap (λ found. if_facts (length earlier) found step) spent.0
    ∙ sym (ap (λ over. if over then Broken (number_of TooCostly) (length earlier) else rest)
    (over-limit terms.limit facts.cost (cost_of terms peak (earlier ++ facts ∷ [])) spent.1 (grown-cost terms peak earlier facts)))

decide : (terms : Terms) (more : ℕ) (peak : Peak) (go : List Facts → Verdict) (earlier list : List Facts) → terms.limit ≤ more → AreFound more list
    → with_facts terms peak earlier (spends_in list) go ≡ with_costs terms peak earlier list (go (earlier ++ list))
decide terms more peak go earlier [] large are = ap go (sym (append-nil earlier))
decide terms more peak go earlier (facts ∷ list) large are =
    let rest : List Facts → Verdict = λ all. with_costs terms peak (earlier ++ facts ∷ []) list (go all) in
    decide-one terms peak earlier facts (λ found. within_limit terms peak earlier found (with_facts terms peak (earlier ++ found ∷ []) (spends_in list) go))
    (with_facts terms peak (earlier ++ facts ∷ []) (spends_in list) go) (rest (earlier ++ facts ∷ list)) refl
    (decide terms more peak go (earlier ++ facts ∷ []) list large are.1 ∙ ap rest (append_assoc earlier (facts ∷ []) list))
    (facts-or-spent terms.limit more facts.spend facts large are.0)

pub facts-decide : FactsDecide
unfolding judgement judgement_of_facts
facts-decide terms more ledger list attested large are =
    ap (unless_broken SpentTwice (spent_twice (spends_in list)))
    (decide terms more ledger.peak (λ list. judged (record { terms = terms; ledger = ledger; list = list; attested = attested })) [] list large are)
