use Rattle.std.proofs.Common.{sym, subst}
use Rattle.lisp_syntax.specs.Scopes.{scope_of}
use Rattle.lisp_syntax.specs.Shapes.{HasShape, part_written, part_left}
use Rattle.lisp_syntax.proofs.shape.shape_of.Goals as goal

pub returns-in-Operands : goal.returns-in-Operands
returns-in-Operands c =
    let scope = scope_of c.args.scope.now in
    subst (λ p. HasShape scope (part_written scope p) (part_left p) c.operands_shape.result) (sym c.in-Operands.is) (c.operands_shape.ensures scope)
