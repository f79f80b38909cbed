use Rattle.judge_spec.proofs.FactLaws.{facts-decide}
use Rattle.judge_spec.proofs.laws.facts_decide.Goals as goal

pub returns : goal.returns
returns c = facts-decide
