use Rattle.std.proofs.Common.{refl, sym, ap, subst, ◌+◌, ◌∙◌}
use Rattle.lisp_read.specs.Copies.{size}
use Rattle.lisp_read.specs.Views.{form_of}
use Rattle.lisp_spec.specs.declared.head.Head.TheVariants.{Lists, Operates}
use Rattle.lisp_spec.specs.Heads.{head_of}
use Rattle.lisp_spec.specs.ModuleFaults.{Unbound, expect}
use Rattle.lisp_spec.specs.Expressions as spec
use Rattle.lisp_syntax.specs.Scopes.{scope_of}
use Rattle.lisp_syntax.specs.Marks.{marked}
use Rattle.lisp_syntax.specs.Shapes.{IsShapeOf}
use Rattle.lisp_syntax.proofs.ShapeLaws.{head_as}
use Rattle.lisp_syntax.proofs.shape.headed.Goals as goal

pub returns-in-Lists : goal.returns-in-Lists
returns-in-Lists c =
    let scope = scope_of c.args.scope.now in
    head_as scope c.args.pair c.args.place c.args.name.now (form_of c.args.behind.now) Lists c.applied.result (sym c.in-Lists.is ∙ c.of.ensures ∙ ap head_of c.as_slice.ensures)
    (c.applied.ensures scope spec.Listing (λ o. refl))

pub returns-in-Operates : goal.returns-in-Operates
returns-in-Operates c =
    let scope = scope_of c.args.scope.now in
    let behind = form_of c.args.behind.now in
    let make = spec.Operation c.in-Operates.code in
    let bound = c.unless-unbound.ensures ∙ ap (λ b. expect b Unbound c.args.place) c.may_apply.ensures in
    head_as scope c.args.pair c.args.place c.args.name.now behind (Operates c.in-Operates.code) c.applied-in-Operates.result (sym c.in-Operates.is ∙ c.of.ensures ∙ ap head_of c.as_slice.ensures)
    (subst (λ u. IsShapeOf scope (marked (spec.applied c.args.pair behind u (spec.operands_of behind) make scope)) (size behind + 2) c.applied-in-Operates.result) bound
    (c.applied-in-Operates.ensures scope make (λ o. refl)))
