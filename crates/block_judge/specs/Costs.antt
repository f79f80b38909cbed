-- The running cost of a list, and what stops the judging spend by spend. Source: this project's own.
use Rattle.std.specs.Prelude.{◌≡◌, ℕ, ◌+◌, ◌*◌, List, [], length, nat_lt, Option, Some, None, if◌then◌else◌}
use Rattle.block_spec.specs.declared.spend.Spend.{Spend}
use Rattle.block_spec.specs.Added.{added_bytes}
use Rattle.chain_spec.specs.declared.chain.Peak.{Peak}
use Rattle.judge_spec.specs.declared.costs.TheConstants.{BYTE_COST}
use Rattle.judge_spec.specs.declared.rule.Rule.{Rule}
use Rattle.judge_spec.specs.declared.rule.Rule.TheVariants as rules
use Rattle.judge_spec.specs.Rules.{number_of}
use Rattle.judge_spec.specs.Facts.{Facts}
use Rattle.judge_spec.specs.Judgement.{Verdict, Broken, charged, cost_of, with_costs, with_facts}
use Rattle.spend_run.specs.declared.fault.SpendFault.{SpendFault}
use Rattle.spend_run.specs.declared.fault.SpendFault.TheVariants as faults
use Rattle.block_judge.specs.declared.costs.Stop.{Stop}
use Rattle.block_judge.specs.declared.costs.Stop.TheVariants as stops
use Rattle.block_judge.specs.declared.verdict.Breach.{Breach}
use Rattle.block_judge.specs.declared.verdict.Verdict as seen
use Rattle.block_judge.specs.Verdicts.{told, terms_within}

abbrev pub added_cost : Peak → Facts → ℕ
added_cost peak facts = BYTE_COST * added_bytes facts.spend + charged (terms_within 0) peak facts

-- the cost with one spend more, where it is within the limit
abbrev pub grown_cost : ℕ → Peak → ℕ → Facts → Option ℕ
grown_cost limit peak cost facts = if nat_lt limit (cost + added_cost peak facts) then None else Some (cost + added_cost peak facts)

-- The cost of a list is this, and within the limit with each spend.
pub record HasCost (limit : ℕ) (peak : Peak) (list : List Facts) (cost : ℕ) : Type 0 where
  pub is : cost ≡ cost_of (terms_within limit) peak list
  pub kept : (verdict : Verdict) → with_costs (terms_within limit) peak [] list verdict ≡ verdict

-- These are the facts of the spends, with their cost, and no rule is broken on the way.
pub record IsFoundWith (limit : ℕ) (peak : Peak) (spends : List Spend) (list : List Facts) (cost : ℕ) : Type 0 where
  pub is : cost ≡ cost_of (terms_within limit) peak list
  pub kept : (go : List Facts → Verdict) → with_facts (terms_within limit) peak [] spends go ≡ go list

-- What goes on with the facts is broken, whatever it is. Want of memory says nothing.
abbrev pub IsStop : ((List Facts → Verdict) → Verdict) → Stop → Type 0
IsStop judged (stops.Broken breach) = (go : List Facts → Verdict) → judged go ≡ Broken breach.rule breach.place
IsStop judged stops.OutOfMemory = Unit {0}

-- the verdict of a stop; want of memory has none
abbrev pub IsToldBy : Stop → seen.Verdict → Type 0
IsToldBy (stops.Broken breach) verdict = told verdict ≡ Broken breach.rule breach.place
IsToldBy stops.OutOfMemory verdict = ⊥

abbrev pub broken_at : Rule → ℕ → Stop
broken_at rule place = stops.Broken (record { rule = number_of rule; place = place })

abbrev pub stop_of : SpendFault → ℕ → Stop
stop_of faults.PuzzleHash place = broken_at rules.WrongPuzzleHash place
stop_of faults.Failed place = broken_at rules.RunFails place
stop_of faults.Spent place = broken_at rules.TooCostly place
stop_of faults.Wide place = broken_at rules.RunIsWide place
stop_of (faults.Malformed at) place = broken_at rules.MalformedCondition place
stop_of (faults.Unknown at) place = broken_at rules.UnknownCondition place
stop_of (faults.SameOutput at) place = broken_at rules.SameOutput place
stop_of (faults.OwnFact at) place = broken_at rules.WrongOwnFact place
stop_of faults.OutOfMemory place = stops.OutOfMemory
