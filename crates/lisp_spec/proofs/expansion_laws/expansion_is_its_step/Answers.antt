use Rattle.lisp_spec.proofs.ExpansionSteps.{expansion_bound_law, expansion_step_law}
use Rattle.lisp_spec.proofs.expansion_laws.expansion_is_its_step.Goals as goal

pub returns-clause-bound : goal.returns-clause-bound
returns-clause-bound c = expansion_bound_law

pub returns-clause-step : goal.returns-clause-step
returns-clause-step c = expansion_step_law
