use Rattle.lisp_spec.proofs.ConstantsOfModules.{constants_are_what_they_mean}
use Rattle.lisp_spec.proofs.constant_laws.constants_are_what_they_mean.Goals as goal

pub returns : goal.returns
returns c = constants_are_what_they_mean
