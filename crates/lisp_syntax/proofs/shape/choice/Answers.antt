use Rattle.std.proofs.Common.{ap}
use Rattle.lisp_read.specs.Views.{form_of}
use Rattle.lisp_syntax.specs.Marks.{marked}
use Rattle.lisp_syntax.proofs.ListLaws.{choice_not}
use Rattle.lisp_syntax.proofs.ShapeLaws.{choice_shape}
use Rattle.lisp_syntax.proofs.shape.choice.Goals as goal

pub returns-in-Some : goal.returns-in-Some
returns-in-Some c = λ scope. choice_shape scope c.args.pair (form_of c.args.behind.now) c.in-Some.condition c.in-Some.second c.in-Some.third c.in-Some.ensures

pub returns-in-None : goal.returns-in-None
returns-in-None c = λ scope. ap marked (choice_not scope c.args.pair (form_of c.args.behind.now) c.in-None.ensures)
