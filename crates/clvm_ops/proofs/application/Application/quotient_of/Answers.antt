use Rattle.std.proofs.Common.{FitsSigned, sym, ◌∙◌}
use Rattle.std.specs.Int.{w128}
use Rattle.std.proofs.lemmas.Int.{to_z-of_z}
use Rattle.clvm_tree.specs.Operators.{trees_at}
use Rattle.clvm_ops.proofs.Answered.{faulty, answers_same}
use Rattle.clvm_ops.proofs.NumberOps.{quotient_of_is}
use Rattle.clvm_ops.proofs.application.Application.quotient_of.Goals as goal

pub returns-in_err-first : goal.returns-in_err-first
returns-in_err-first c = faulty c.args.trees.now c.args.self.now _ c.in_err-first.field-0.0 _ c.from_residual.ensures.1 (c.in_err-first.ensures.err _)

pub returns : goal.returns
returns c =
    let trees = c.args.trees.now in
    let number_fits : FitsSigned w128 c.number.result = record { sfits = c.number.type_inv } in
    let divisor_fits : FitsSigned w128 c.number-divisor.result = record { sfits = c.number-divisor.type_inv } in
    let divisor = to_z-of_z w128 _ divisor_fits in
    answers_same trees c.give_if_held.new.trees c.args.self.now _ _ _
    (quotient_of_is c.args.self.now.cost (trees_at trees c.args.self.now.operands.now) _ _ _ _ c.quotient_of-quotient.result c.in_ok-first.ensures.ok (to_z-of_z w128 _ number_fits ∙ c.number.ensures) (divisor ∙ c.number-divisor.ensures)
    (sym c.is_zero.ensures ∙ c.if-is_zero.false) c.quotient_of-quotient.ensures) c.give_if_held.ensures
