-- The run of a puzzle on its solution. Source: CLVM reference; the costs and the limits are this project's own.
use Rattle.std.specs.Prelude.{ℕ, Option, Some, None}
use Rattle.clvm_spec.specs.Tree.{Tree}
use Rattle.clvm_spec.specs.Outcomes as outcomes
use Rattle.clvm_spec.specs.Evaluation.{run_outcome, run_cost, fuel_of}
use Rattle.judge_spec.specs.declared.limits.TheConstants.{GREATEST_MAX_COST}

-- what a run that is done gives, and what it costs
pub record Done : Type 0 where
  pub value : Tree
  pub cost : ℕ

abbrev pub done_of : ℕ → outcomes.Outcome → Option Done
done_of limit (outcomes.Done value left) = Some (record { value = value; cost = run_cost (fuel_of limit) left })
done_of limit (outcomes.Failed why form) = None
done_of limit (outcomes.Spent count) = None
done_of limit outcomes.Wide = None

-- The limit is the greatest that a session may have. With more fuel a done run stays the same, so the limit is no part of
-- a verdict but by the rule on costs.
abbrev pub run_of : Tree → Tree → Option Done
run_of puzzle solution = done_of GREATEST_MAX_COST (run_outcome puzzle solution (fuel_of GREATEST_MAX_COST))
