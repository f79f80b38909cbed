use Rattle.std.proofs.Common.{ap}
use Rattle.lisp_read.specs.Views.{form_of}
use Rattle.lisp_syntax.specs.Marks.{marked}
use Rattle.lisp_syntax.proofs.ListLaws.{template_not}
use Rattle.lisp_syntax.proofs.ShapeLaws.{filled_shape}
use Rattle.lisp_syntax.proofs.shape.filled.Goals as goal

pub returns-in-Some : goal.returns-in-Some
returns-in-Some c = λ scope. filled_shape scope c.args.pair (form_of c.args.behind.now) c.in-Some.template c.in-Some.ensures

pub returns-in-None : goal.returns-in-None
returns-in-None c = λ scope. ap marked (template_not scope c.args.pair (form_of c.args.behind.now) c.in-None.ensures)
