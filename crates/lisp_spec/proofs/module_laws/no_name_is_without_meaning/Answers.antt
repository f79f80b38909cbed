use Rattle.lisp_spec.proofs.BoundProofs.{no_name_is_without_meaning}
use Rattle.lisp_spec.proofs.module_laws.no_name_is_without_meaning.Goals as goal

pub returns : goal.returns
returns c = no_name_is_without_meaning
