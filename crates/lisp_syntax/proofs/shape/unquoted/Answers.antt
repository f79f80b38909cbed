use Rattle.std.proofs.Common.{ap}
use Rattle.lisp_read.specs.Views.{form_of}
use Rattle.lisp_syntax.specs.Marks.{unquoted_marked}
use Rattle.lisp_syntax.proofs.ListLaws.{expression_not}
use Rattle.lisp_syntax.proofs.ShapeLaws.{unquoted_shape}
use Rattle.lisp_syntax.proofs.shape.unquoted.Goals as goal

pub returns-in-Some : goal.returns-in-Some
returns-in-Some c = λ scope. unquoted_shape scope c.args.pair (form_of c.args.behind.now) c.in-Some.expression c.in-Some.ensures

pub returns-in-None : goal.returns-in-None
returns-in-None c = λ scope. ap unquoted_marked (expression_not scope c.args.pair (form_of c.args.behind.now) c.in-None.ensures)
