use Rattle.std.proofs.Common.{◌+◌, ◌*◌, ◌<◌, ◌^◌, ◌∙◌, length, ap, sym, arith, rules}
use Rattle.std.specs.Int.{w128}
use Rattle.std.proofs.lemmas.Int.{to_z_pos}
use Rattle.clvm_spec.specs.declared.costs.TheConstants.{MEASURED_BYTE_COST}
use Rattle.clvm_spec.specs.Operators.{length_of, new_number}
use Rattle.clvm_ops.proofs.Answered.{faulty, answers_same}
use Rattle.clvm_ops.proofs.AtomLaws.{length_of_is}
use Rattle.clvm_tree.proofs.OperandLists.{one_operand}
use Rattle.clvm_ops.proofs.application.Application.length_of.Goals as goal

pub returns-in_err-size : goal.returns-in_err-size
returns-in_err-size c =
    let list = one_operand c.args.trees.now c.args.self.now.operands.now record { 0 = 0 } c.in-len1.len_at_least c.in-len1.len_below in
    answers_same c.args.trees.now c.args.trees.now c.args.self.now _ _ _ (ap (length_of c.args.self.now.cost) list)
    (faulty c.args.trees.now c.args.self.now _ c.in_err-size.field-0.0 _ c.from_residual.ensures.1 (c.in_err-size.ensures.err _))

pub returns : goal.returns
returns c =
    let trees = c.args.trees.now in
    let list = one_operand trees c.args.self.now.operands.now record { 0 = 0 } c.in-len1.len_at_least c.in-len1.len_below in
    let bytes = c.in_ok-size.field-0.now in
    let long : length bytes < 2 ^ 63 = search rules in
    answers_same trees c.give_number.new.trees c.args.self.now _ _ _
    (length_of_is c.args.self.now.cost _ _ bytes list c.in_ok-size.ensures.ok ∙ ap (new_number (c.args.self.now.cost + MEASURED_BYTE_COST * length bytes)) (sym (to_z_pos w128 (length bytes) (omega arith)))) c.give_number.ensures
