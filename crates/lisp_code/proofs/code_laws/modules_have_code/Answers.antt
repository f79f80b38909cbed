use Rattle.lisp_code.proofs.HavingCode.{modules_have_code}
use Rattle.lisp_code.proofs.code_laws.modules_have_code.Goals as goal

pub returns : goal.returns
returns c = modules_have_code
