use Rattle.lisp_spec.proofs.InclusionProofs.{include_is_its_step, includes_keep_numbers}
use Rattle.lisp_spec.proofs.nesting_laws.include_is_its_step.Goals as goal

pub returns-clause-step : goal.returns-clause-step
returns-clause-step c = include_is_its_step

pub returns-clause-numbers : goal.returns-clause-numbers
returns-clause-numbers c = includes_keep_numbers
