use Rattle.lisp_spec.proofs.BodySteps.{bound_law, step_law}
use Rattle.lisp_spec.proofs.expansion_laws.body_is_its_step.Goals as goal

pub returns-clause-bound : goal.returns-clause-bound
returns-clause-bound c = bound_law

pub returns-clause-step : goal.returns-clause-step
returns-clause-step c = step_law
