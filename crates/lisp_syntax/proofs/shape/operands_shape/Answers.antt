use Rattle.std.proofs.Common.{ap, sym, subst}
use Rattle.lisp_read.specs.Copies.{size}
use Rattle.lisp_read.specs.Views.{form_of}
use Rattle.lisp_spec.specs.Expressions.{operands_of}
use Rattle.lisp_syntax.specs.declared.node.Node.TheVariants.{Operand}
use Rattle.lisp_syntax.specs.declared.shape.Part.TheVariants.{Expression, Operands}
use Rattle.lisp_syntax.specs.declared.shape.Shape.TheVariants.{Two}
use Rattle.lisp_syntax.specs.Marks.{operands_marked}
use Rattle.lisp_syntax.specs.Shapes.{HasShape}
use Rattle.lisp_syntax.proofs.ShapeLaws.{operand_shape}
use Rattle.lisp_syntax.proofs.shape.operands_shape.Goals as goal

pub returns-in-Pair : goal.returns-in-Pair
returns-in-Pair c = λ scope.
    subst (λ f. HasShape scope (operands_marked (operands_of f scope)) (size f) (Two (Expression c.get.result) (Operands c.get-in-Pair.result) Operand)) (sym (ap form_of c.in-Pair.is))
    (operand_shape scope c.in-Pair.field-0 c.in-Pair.first c.in-Pair.rest c.get.result c.get-in-Pair.result c.get.ensures c.get-in-Pair.ensures)
