use Rattle.std.proofs.Common.{sym, ap, ◌∙◌}
use Rattle.lisp_read.specs.Forms.{Pair}
use Rattle.lisp_read.specs.Views.{form_of}
use Rattle.lisp_syntax.specs.Scopes.{scope_of}
use Rattle.lisp_syntax.proofs.ShapeLaws.{expression_as}
use Rattle.lisp_syntax.proofs.shape.expression_shape.Goals as goal

pub returns-in-Symbol-get : goal.returns-in-Symbol-get
returns-in-Symbol-get c =
    expression_as (scope_of c.args.scope.now) (form_of c.args.form.now) c.in-Pair.pair c.in-Symbol-get.place c.in-Symbol-get.name c.in-Pair.behind (form_of c.get-in-Symbol-get.result.now) c.headed.result
    (ap form_of c.in-Pair.is ∙ ap (λ h. Pair c.in-Pair.pair h c.in-Pair.behind) (sym c.get.ensures ∙ ap form_of c.in-Symbol-get.is))
    c.get-in-Symbol-get.ensures c.headed.ensures
