use Rattle.std.proofs.Common.{◌≡◌, [], take, drop}
use Rattle.judge_spec.specs.Judgement.{Verdict, cost_of, with_costs}
use Rattle.block_judge.specs.Verdicts.{terms_within}
use Rattle.block_judge.proofs.costs.cost_of_list.Given as goal

abbrev pub invariant-loop-place : goal.invariant-loop-place
invariant-loop-place l =
    (l.cost ≡ cost_of (terms_within l.limit) l.peak (take l.place l.list))
    × ((verdict : Verdict) → with_costs (terms_within l.limit) l.peak (take l.place l.list) (drop l.place l.list) verdict ≡ with_costs (terms_within l.limit) l.peak [] l.list verdict)
