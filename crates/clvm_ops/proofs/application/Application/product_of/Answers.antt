use Rattle.std.proofs.Common.{Option, FitsSigned, ap, sym, ◌∙◌, rules}
use Rattle.std.specs.Int.{w128}
use Rattle.std.proofs.lemmas.Int.{to_z-of_z}
use Rattle.clvm_spec.specs.Outcomes.{Applied, Enough}
use Rattle.clvm_spec.specs.Operators.{or_wide, new_number}
use Rattle.clvm_ops.specs.declared.folds.Product.{Product}
use Rattle.clvm_ops.proofs.Answered.{faulty, answers_same, refused_at_once}
use Rattle.clvm_ops.proofs.application.Application.product_of.Goals as goal

abbrev product_given : Option Product → Applied
product_given held = or_wide held (λ product. new_number product.cost product.number)

pub returns-in_err-numbers : goal.returns-in_err-numbers
returns-in_err-numbers c = faulty c.args.trees.now c.args.self.now _ c.in_err-numbers.field-0.0 _ c.from_residual.ensures.1 (c.in_err-numbers.ensures.err _)

pub returns-in-Some : goal.returns-in-Some
returns-in-Some c =
    let trees = c.args.trees.now in
    let fits : FitsSigned w128 c.in-Some.product.number = search rules in
    answers_same trees c.give_number.new.trees c.args.self.now _ _ _
    (c.whole_product.ensures ∙ ap product_given c.in-Some.is ∙ ap (new_number c.in-Some.product.cost) (sym (to_z-of_z w128 c.in-Some.product.number fits))) c.give_number.ensures

pub returns-in-None : goal.returns-in-None
returns-in-None c = refused_at_once c.args.trees.now c.args.self.now _ _ (ap Enough (c.whole_product.ensures ∙ ap product_given c.in-None.is))
