use Rattle.lisp_spec.proofs.NestingProofs.{parameters_weigh_what_they_stand_for}
use Rattle.lisp_spec.proofs.nesting_laws.parameters_weigh_what_they_stand_for.Goals as goal

pub returns : goal.returns
returns c = parameters_weigh_what_they_stand_for
