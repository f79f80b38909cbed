use Rattle.judge_spec.proofs.FactLaws.{facts-keep, facts-or-spent}
use Rattle.judge_spec.proofs.laws.facts_keep.Goals as goal

pub returns-clause-more : goal.returns-clause-more
returns-clause-more c = facts-keep

pub returns-clause-less : goal.returns-clause-less
returns-clause-less c = facts-or-spent
