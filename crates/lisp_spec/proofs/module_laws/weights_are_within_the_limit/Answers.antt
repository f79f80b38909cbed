use Rattle.lisp_spec.proofs.ModuleProofs.{weights_are_within_the_limit, values_are_within_the_limit}
use Rattle.lisp_spec.proofs.module_laws.weights_are_within_the_limit.Goals as goal

pub returns-clause-expressions : goal.returns-clause-expressions
returns-clause-expressions c = weights_are_within_the_limit

pub returns-clause-values : goal.returns-clause-values
returns-clause-values c = values_are_within_the_limit
