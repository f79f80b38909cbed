use Rattle.std.proofs.Common.{FitsSigned, ap, ◌∙◌}
use Rattle.std.specs.Int.{w128}
use Rattle.std.proofs.lemmas.Int.{to_z-of_z}
use Rattle.clvm_spec.specs.Operators.{complement_of}
use Rattle.clvm_ops.proofs.Answered.{faulty, answers_same}
use Rattle.clvm_tree.proofs.OperandLists.{one_operand}
use Rattle.clvm_ops.proofs.NumberOps.{complement_of_is}
use Rattle.clvm_ops.proofs.application.Application.complement_of.Goals as goal

pub returns-in_err-bytes : goal.returns-in_err-bytes
returns-in_err-bytes c =
    let list = one_operand c.args.trees.now c.args.self.now.operands.now record { 0 = 0 } c.in-len1.len_at_least c.in-len1.len_below in
    answers_same c.args.trees.now c.args.trees.now c.args.self.now _ _ _ (ap (complement_of c.args.self.now.cost) list)
    (faulty c.args.trees.now c.args.self.now _ c.in_err-bytes.field-0.0 _ c.from_residual.ensures.1 (c.in_err-bytes.ensures.err _))

pub returns : goal.returns
returns c =
    let trees = c.args.trees.now in
    let list = one_operand trees c.args.self.now.operands.now record { 0 = 0 } c.in-len1.len_at_least c.in-len1.len_below in
    let fits : FitsSigned w128 c.complement-complement.result = record { sfits = c.complement-complement.type_inv } in
    answers_same trees c.give_number.new.trees c.args.self.now _ _ _
    (complement_of_is c.args.self.now.cost _ _ c.in_ok-bytes.bytes.now _ list c.in_ok-bytes.ensures.ok c.in_ok-bytes.ensures.short (to_z-of_z w128 _ fits ∙ c.complement-complement.ensures)) c.give_number.ensures
