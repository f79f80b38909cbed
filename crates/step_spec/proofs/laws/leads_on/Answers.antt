use Rattle.step_spec.proofs.HistoryLaws.{leads-on, beginning-leads}
use Rattle.step_spec.proofs.laws.leads_on.Goals as goal

pub returns-clause-on : goal.returns-clause-on
returns-clause-on c = leads-on

pub returns-clause-beginning : goal.returns-clause-beginning
returns-clause-beginning c = beginning-leads
