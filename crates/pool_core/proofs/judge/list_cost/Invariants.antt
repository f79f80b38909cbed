use Rattle.std.proofs.Common.{◌≡◌, ◌+◌, ◌*◌, ◌≤◌, [], take, drop}
use Rattle.block_spec.specs.declared.sizes.TheConstants.{EMPTY_GENERATOR_BYTES}
use Rattle.judge_spec.specs.declared.costs.TheConstants.{BYTE_COST}
use Rattle.judge_spec.specs.declared.limits.TheConstants.{GREATEST_MAX_COST}
use Rattle.pool_spec.specs.FirstJudgement.{Verdict, cost_of, spend_by_spend}
use Rattle.pool_core.proofs.judge.list_cost.Given as goal

abbrev pub invariant-loop-place : goal.invariant-loop-place
invariant-loop-place l = record {
  is : l.cost ≡ cost_of (take l.place l.spends);
  small : l.cost ≤ GREATEST_MAX_COST + BYTE_COST * EMPTY_GENERATOR_BYTES;
  walked : (after : Verdict) → spend_by_spend l.limit (take l.place l.spends) (drop l.place l.spends) after ≡ spend_by_spend l.limit [] l.spends after;
}
