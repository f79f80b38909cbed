use Rattle.step_spec.proofs.HistoryLaws.{state-is-of-history, leads-to-one}
use Rattle.step_spec.proofs.laws.state_is_of_history.Goals as goal

pub returns-clause-function : goal.returns-clause-function
returns-clause-function c = state-is-of-history

pub returns-clause-one : goal.returns-clause-one
returns-clause-one c = leads-to-one
