use Rattle.std.proofs.Common.{◌≡◌, take}
use Rattle.judge_spec.specs.GrowthLaws.{ids_spent}
use Rattle.judge_spec.specs.Judgement.{spends_in}
use Rattle.block_judge.proofs.ids.ids_of_facts.Given as goal

abbrev pub invariant-loop-facts : goal.invariant-loop-facts
invariant-loop-facts l = l.ids.items ≡ ids_spent (spends_in (take l.facts-index l.list))
