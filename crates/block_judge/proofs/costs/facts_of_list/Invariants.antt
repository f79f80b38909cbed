use Rattle.std.proofs.Common.{◌≡◌, List, [], length, drop}
use Rattle.judge_spec.specs.Facts.{Facts}
use Rattle.judge_spec.specs.Judgement.{Verdict, cost_of, with_facts}
use Rattle.block_judge.specs.Verdicts.{terms_within}
use Rattle.block_judge.proofs.costs.facts_of_list.Given as goal

abbrev pub invariant-loop-place : goal.invariant-loop-place
invariant-loop-place l =
    (length l.list ≡ l.place) × (l.cost ≡ cost_of (terms_within l.limit) l.peak l.list)
    × ((go : List Facts → Verdict) → with_facts (terms_within l.limit) l.peak l.list (drop l.place l.spends) go ≡ with_facts (terms_within l.limit) l.peak [] l.spends go)
