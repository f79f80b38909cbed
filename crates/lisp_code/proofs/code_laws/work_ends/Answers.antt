use Rattle.lisp_code.proofs.HavingCode.{work_ends}
use Rattle.lisp_code.proofs.code_laws.work_ends.Goals as goal

pub returns : goal.returns
returns c = work_ends
