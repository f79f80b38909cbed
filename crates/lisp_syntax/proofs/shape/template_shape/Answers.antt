use Rattle.std.proofs.Common.{codes, ap, sym, subst, ◌∙◌}
use Rattle.lisp_read.specs.Copies.{size}
use Rattle.lisp_read.specs.FormLists.{is_symbol}
use Rattle.lisp_read.specs.Views.{form_of}
use Rattle.lisp_spec.specs.Expressions.{template_of}
use Rattle.lisp_syntax.specs.declared.node.Node.TheVariants.{Both}
use Rattle.lisp_syntax.specs.declared.shape.Part.TheVariants.{Template}
use Rattle.lisp_syntax.specs.declared.shape.Shape.TheVariants.{Two}
use Rattle.lisp_syntax.specs.Marks.{template_marked}
use Rattle.lisp_syntax.specs.Shapes.{HasShape}
use Rattle.lisp_syntax.proofs.ShapeLaws.{both_shape}
use Rattle.lisp_syntax.proofs.shape.template_shape.Goals as goal

pub returns-else-is_symbol : goal.returns-else-is_symbol
returns-else-is_symbol c = λ scope.
    subst (λ f. HasShape scope (template_marked (template_of f scope)) (size f) (Two (Template c.get-in-Pair.result) (Template c.get-in-Pair-2.result) Both)) (sym (ap form_of c.in-Pair.is))
    (both_shape scope c.in-Pair.pair c.in-Pair.first c.in-Pair.rest c.get-in-Pair.result c.get-in-Pair-2.result c.get-in-Pair.ensures c.get-in-Pair-2.ensures
    (ap (is_symbol (codes "unquote")) (sym c.get.ensures) ∙ sym c.is_symbol.ensures ∙ c.if-is_symbol.false))
