use Rattle.lisp_spec.proofs.ConstantProofs.{constants_mean_their_values, failing_constants_mean_none}
use Rattle.lisp_spec.proofs.constant_laws.constants_mean_their_values.Goals as goal

pub returns-clause-values : goal.returns-clause-values
returns-clause-values c = constants_mean_their_values

pub returns-clause-failures : goal.returns-clause-failures
returns-clause-failures c = failing_constants_mean_none
