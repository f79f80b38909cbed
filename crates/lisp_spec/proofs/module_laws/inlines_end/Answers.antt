use Rattle.lisp_spec.proofs.ModuleProofs.{inlines_end}
use Rattle.lisp_spec.proofs.module_laws.inlines_end.Goals as goal

pub returns : goal.returns
returns c = inlines_end
