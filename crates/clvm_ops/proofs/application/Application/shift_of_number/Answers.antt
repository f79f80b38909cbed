use Rattle.std.proofs.Common.{◌≡◌, true, FitsSigned, to_z, of_z, ◌∙◌, rules}
use Rattle.std.specs.Int.{w128}
use Rattle.std.proofs.lemmas.Int.{to_z-of_z}
use Rattle.clvm_spec.specs.Arithmetic.{is_shift}
use Rattle.clvm_tree.specs.Operators.{trees_at}
use Rattle.clvm_ops.proofs.Answered.{faulty, answers_same}
use Rattle.clvm_ops.proofs.ShiftLaws.{shift_of_number_is}
use Rattle.clvm_ops.proofs.application.Application.shift_of_number.Goals as goal

pub returns-in_err-value : goal.returns-in_err-value
returns-in_err-value c = faulty c.args.trees.now c.args.self.now _ c.in_err-value.field-0.0 _ c.from_residual.ensures.1 (c.in_err-value.ensures.err _)

pub returns : goal.returns
returns c =
    let trees = c.args.trees.now in
    let value_fits : FitsSigned w128 c.number.result = record { sfits = c.number.type_inv } in
    let by_fits : FitsSigned w128 c.number-by.result = record { sfits = c.number-by.type_inv } in
    let fair : is_shift (to_z w128 (of_z w128 c.number-by.result)) ≡ true = search rules in
    answers_same trees c.give_shifted.new.trees c.args.self.now _ _ _
    (shift_of_number_is c.args.self.now.cost (trees_at trees c.args.self.now.operands.now) c.in_ok-value.value.now c.in_ok-value.by.now _ _ c.shifted-shifted.result c.in_ok-value.ensures.ok (to_z-of_z w128 _ value_fits ∙ c.number.ensures)
    (to_z-of_z w128 _ by_fits ∙ c.number-by.ensures) fair c.shifted-shifted.ensures) c.give_shifted.ensures
