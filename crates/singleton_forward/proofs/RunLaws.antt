-- What facts say of the run with another limit.
use Rattle.std.proofs.Common.{◌≡◌, ℕ, ◌+◌, ◌-◌, ◌<◌, ◌≤◌, Bool, true, false, if◌then◌else◌, Some, None, Ok, Err, refl, ap, sym, ◌∙◌, arith}
use Rattle.clvm_spec.specs.declared.fuel.Fuel.{Fuel}
use Rattle.clvm_spec.specs.Tree.{Tree}
use Rattle.clvm_spec.specs.Outcomes.{Outcome, Done, Failed, Spent, Wide}
use Rattle.clvm_spec.specs.Spending.{fuel_less}
use Rattle.clvm_spec.specs.Spelled.{spelled_tree}
use Rattle.clvm_spec.specs.Evaluation.{run_cost, fuel_of}
use Rattle.clvm_spec.proofs.SpendingLaws.{covers, covered}
use Rattle.clvm_spec.proofs.Steps.{done_law}
use Rattle.block_spec.specs.declared.spend.Spend.{Spend}
use Rattle.cond_spec.specs.Conditions.{Listing, Lists, MalformedAt, UnknownAt, conditions_of, cost_of_conditions}
use Rattle.cond_spec.specs.ActRules.{same_output, wrong_own_fact}
use Rattle.judge_spec.specs.Facts.{Facts, acts_of, OtherPuzzle, SameOutput, OwnFact, unless_at, of_listing, of_run, run_of, has_its_puzzle, facts_of}
use Rattle.judge_spec.proofs.FactLaws.{unless-cost}
use Rattle.pool_spec.specs.Shape.{listed, conditions_in, run_conditions}

-- the run with another limit, with the same value at the same cost
record KeptRun (limit more : ℕ) (spend : Spend) (value : Tree) (left : Fuel) : Type 0 where
  after : Fuel
  is : run_of more spend ≡ Done value after
  same : run_cost (fuel_of more) after ≡ run_cost (fuel_of limit) left

-- whatever the other limit is, where it covers what the run costs
kept_run : (limit more : ℕ) (spend : Spend) (value : Tree) (left : Fuel) → run_cost (fuel_of limit) left ≤ more → run_of limit spend ≡ Done value left → KeptRun limit more spend value left
kept_run limit more spend value left enough e =
    let law = done_law (spelled_tree spend.puzzle) (spelled_tree spend.solution) 0 (fuel_of limit) left value e in
    let spending = law.0 in
    let held = covers (fuel_of limit) spending law.1 in
    let within = held.cost in
    let cost = ap (λ fuel. fuel.cost) law.2 in
    let paid : spending.cost ≤ more = omega arith in
    record {
      after = fuel_less spending (fuel_of more);
      is = law.3 (fuel_of more) (covered (fuel_of more) spending (record { cost = paid; pairs = held.pairs; bytes = held.bytes })) (omega arith);
      same = omega arith;
    }

-- the run that facts tell of
record Ran (limit : ℕ) (spend : Spend) (facts : Facts) : Type 0 where
  value : Tree
  left : Fuel
  is : run_of limit spend ≡ Done value left
  lists : conditions_of value ≡ Lists facts.conditions
  cost : facts.cost - cost_of_conditions facts.conditions ≡ run_cost (fuel_of limit) left
  within : cost_of_conditions facts.conditions ≤ facts.cost

by_listing : (limit : ℕ) (spend : Spend) (facts : Facts) (value : Tree) (left : Fuel) (listing : Listing) → run_of limit spend ≡ Done value left → conditions_of value ≡ listing
    → of_listing spend (run_cost (fuel_of limit) left) listing ≡ Ok facts → Ran limit spend facts
by_listing limit spend facts value left (Lists conditions) is lists e =
    let made : Facts = record { spend = spend; cost = run_cost (fuel_of limit) left + cost_of_conditions conditions; conditions = conditions } in
    let inner = unless-cost SameOutput (same_output (acts_of made)) (unless_at OwnFact (wrong_own_fact (acts_of made)) (Ok made)) facts e in
    let last = unless-cost OwnFact (wrong_own_fact (acts_of made)) (Ok made) facts inner in
    let same : made ≡ facts = cc in
    let costs : made.cost ≡ facts.cost = ap (λ f. f.cost) same in
    let listed : cost_of_conditions conditions ≡ cost_of_conditions facts.conditions = ap (λ f. cost_of_conditions f.conditions) same in
    record { value = value; left = left; is = is; lists = lists ∙ ap (λ f. Lists f.conditions) same; cost = omega (arith, costs, listed); within = omega (arith, costs, listed) }
by_listing limit spend facts value left (MalformedAt place) is lists e = cc
by_listing limit spend facts value left (UnknownAt place) is lists e = cc

by_run : (limit : ℕ) (spend : Spend) (facts : Facts) (outcome : Outcome) → run_of limit spend ≡ outcome → of_run limit spend outcome ≡ Ok facts → Ran limit spend facts
by_run limit spend facts (Done value left) is e = by_listing limit spend facts value left (conditions_of value) is refl e
by_run limit spend facts (Failed why form) is e = cc
by_run limit spend facts (Spent which) is e = cc
by_run limit spend facts Wide is e = cc

by_puzzle : (limit : ℕ) (spend : Spend) (facts : Facts) (own : Bool) → (if own then of_run limit spend (run_of limit spend) else Err OtherPuzzle) ≡ Ok facts → Ran limit spend facts
by_puzzle limit spend facts true e = by_run limit spend facts (run_of limit spend) refl e
by_puzzle limit spend facts false e = cc

ran : (limit : ℕ) (spend : Spend) (facts : Facts) → facts_of limit spend ≡ Ok facts → Ran limit spend facts
unfolding facts_of
ran limit spend facts e = by_puzzle limit spend facts (has_its_puzzle spend) e

pub conditions-within : (limit : ℕ) (spend : Spend) (facts : Facts) → facts_of limit spend ≡ Ok facts → cost_of_conditions facts.conditions ≤ facts.cost
conditions-within limit spend facts e = (ran limit spend facts e).within

pub run-kept : (limit more : ℕ) (spend : Spend) (facts : Facts) → facts_of more spend ≡ Ok facts → facts.cost - cost_of_conditions facts.conditions ≤ limit
    → run_conditions limit spend ≡ Some facts.conditions
run-kept limit more spend facts e within =
    let run = ran more spend facts e in
    let cost = run.cost in
    let kept = kept_run more limit spend run.value run.left (omega (arith, cost, within)) run.is in
    ap conditions_in kept.is ∙ ap listed run.lists

left_in : Outcome → Fuel → Fuel
left_in (Done value left) other = left
left_in (Failed why form) other = other
left_in (Spent which) other = other
left_in Wide other = other

none_by : (limit more : ℕ) (spend : Spend) (facts : Facts) (outcome : Outcome) → Ran more spend facts → limit < facts.cost - cost_of_conditions facts.conditions → run_of limit spend ≡ outcome
    → conditions_in outcome ≡ None
unfolding left_in
none_by limit more spend facts (Done value left) run over is =
    let cost = run.cost in
    let small : run_cost (fuel_of limit) left ≤ limit = omega arith in
    let large : run_cost (fuel_of more) run.left ≤ more = omega arith in
    let kept = kept_run limit more spend value left (omega (arith, cost, over, small, large)) is in
    let same : kept.after ≡ run.left = ap (λ o. left_in o run.left) (sym kept.is ∙ run.is) in
    let costs : run_cost (fuel_of more) kept.after ≡ run_cost (fuel_of more) run.left = ap (run_cost (fuel_of more)) same in
    let paid = kept.same in
    absurd (omega (arith, cost, over, small, costs, paid))
none_by limit more spend facts (Failed why form) run over is = refl
none_by limit more spend facts (Spent which) run over is = refl
none_by limit more spend facts Wide run over is = refl

pub run-spent : (limit more : ℕ) (spend : Spend) (facts : Facts) → facts_of more spend ≡ Ok facts → limit < facts.cost - cost_of_conditions facts.conditions
    → run_conditions limit spend ≡ None
run-spent limit more spend facts e over = none_by limit more spend facts (run_of limit spend) (ran more spend facts e) over refl
