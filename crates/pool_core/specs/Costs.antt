-- What one spend more adds to the cost of a list, and the rules 3 and 5 at it. The cost of a list grows by
-- what the bytes cost that the spend adds to the generator, and by its run and conditions. Source: this project's own.
use Rattle.std.specs.Prelude.{◌≡◌, ℕ, ◌+◌, ◌*◌, nat_lt, List, [], Result, Ok, Err, if◌then◌else◌}
use Rattle.block_spec.specs.declared.spend.Spend.{Spend}
use Rattle.block_spec.specs.Added.{added_bytes}
use Rattle.judge_spec.specs.declared.costs.TheConstants.{BYTE_COST}
use Rattle.judge_spec.specs.declared.rule.Rule.{Rule}
use Rattle.judge_spec.specs.declared.rule.Rule.TheVariants.{WrongPuzzleHash, TooCostly}
use Rattle.pool_spec.specs.FirstJudgement.{Verdict, facts_or_none, has_its_puzzle, cost_of, spend_by_spend}

abbrev pub added_cost : Spend → ℕ
added_cost spend = BYTE_COST * added_bytes spend + (facts_or_none spend).cost

-- the cost with this spend, or which rule is broken at it
abbrev pub grown_cost : ℕ → ℕ → Spend → Result ℕ Rule
grown_cost limit cost spend = if has_its_puzzle spend then (if nat_lt limit (cost + added_cost spend) then Err TooCostly else Ok (cost + added_cost spend)) else Err WrongPuzzleHash

-- No spend breaks a rule, and this is the cost of all.
pub record HasCost (limit : ℕ) (spends : List Spend) (cost : ℕ) : Type 0 where
  pub is : cost ≡ cost_of spends
  pub goes_on : (after : Verdict) → spend_by_spend limit [] spends after ≡ after
