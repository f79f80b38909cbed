use Rattle.step_spec.proofs.PricedLaws.{step-keeps-priced, history-keeps-priced}
use Rattle.step_spec.proofs.laws.keeps_priced.Goals as goal

pub returns-clause-step : goal.returns-clause-step
returns-clause-step c = step-keeps-priced

pub returns-clause-history : goal.returns-clause-history
returns-clause-history c = history-keeps-priced
