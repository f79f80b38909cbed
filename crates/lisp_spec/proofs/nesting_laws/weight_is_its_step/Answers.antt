use Rattle.lisp_spec.proofs.NestingProofs.{weights_are_within_the_nesting, weight_is_its_step}
use Rattle.lisp_spec.proofs.nesting_laws.weight_is_its_step.Goals as goal

pub returns-clause-bound : goal.returns-clause-bound
returns-clause-bound c = weights_are_within_the_nesting

pub returns-clause-step : goal.returns-clause-step
returns-clause-step c = weight_is_its_step
