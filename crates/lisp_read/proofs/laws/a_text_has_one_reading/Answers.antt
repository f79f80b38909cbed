use Rattle.std.proofs.Common.{sym, ◌∙◌}
use Rattle.lisp_read.proofs.BoundLaws.{same_forms_read}
use Rattle.lisp_read.proofs.laws.a_text_has_one_reading.Goals as goal

pub returns : goal.returns
returns c = λ number text forms others e f. same_forms_read forms others (sym e ∙ f)
