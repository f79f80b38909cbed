use Rattle.step_spec.proofs.HistoryLaws.{step-is-answered}
use Rattle.step_spec.proofs.laws.step_is_answered.Goals as goal

pub returns : goal.returns
returns c = step-is-answered
