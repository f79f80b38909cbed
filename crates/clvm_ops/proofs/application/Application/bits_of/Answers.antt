use Rattle.std.proofs.Common.{FitsSigned, ◌∙◌}
use Rattle.std.specs.Int.{w128}
use Rattle.std.proofs.lemmas.Int.{to_z-of_z}
use Rattle.clvm_ops.specs.Folds.{bitwise_of}
use Rattle.clvm_ops.proofs.Answered.{faulty, answers_same}
use Rattle.clvm_ops.proofs.NumberOps.{bits_of_is}
use Rattle.clvm_ops.proofs.application.Application.bits_of.Goals as goal

pub returns-in_err-size : goal.returns-in_err-size
returns-in_err-size c = faulty c.args.trees.now c.args.self.now _ c.in_err-size.field-0.0 _ c.from_residual.ensures.1 (c.in_err-size.ensures.err _)

pub returns : goal.returns
returns c =
    let trees = c.args.trees.now in
    let fits : FitsSigned w128 c.of_all-bits.result = record { sfits = c.of_all-bits.type_inv } in
    answers_same trees c.give_number.new.trees c.args.self.now _ _ _
    (bits_of_is c.args.self.now.cost (bitwise_of c.args.step) trees c.args.self.now.operands.now c.in_ok-size.size _ c.in_ok-size.ensures.ok (to_z-of_z w128 _ fits ∙ c.of_all-bits.ensures)) c.give_number.ensures
