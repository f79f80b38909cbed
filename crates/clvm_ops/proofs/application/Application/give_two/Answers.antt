use Rattle.std.proofs.Common.{arith}
use Rattle.std.proofs.lemmas.Int.{to_z-of_z}
use Rattle.clvm_spec.specs.Numbers.{shortest_atom}
use Rattle.clvm_ops.proofs.Answered.{spent, answers_same, given_new}
use Rattle.clvm_ops.proofs.DivisionLaws.{written_pair_is}
use Rattle.clvm_ops.proofs.application.Application.give_two.Goals as goal

pub returns-in_err-charge : goal.returns-in_err-charge
returns-in_err-charge c =
    let trees = c.args.trees.now in
    let first = simp (to_z-of_z, c.ranges.first) at c.number_length.ensures.length in
    let second = simp (to_z-of_z, c.ranges.second) at c.number_length-2.ensures.length in
    answers_same trees trees c.args.self.now _ _ _
    (written_pair_is c.args.cost (shortest_atom c.args.first) (shortest_atom c.args.second) c.number_length.result c.number_length-2.result first second)
    (spent trees c.args.self.now _ c.in_err-charge.field-0.0 _ c.from_residual.ensures.1 (c.in_err-charge.ensures.err trees _))

pub returns : goal.returns
returns c =
    let first = simp (to_z-of_z, c.ranges.first) at c.number_length.ensures.length in
    let second = simp (to_z-of_z, c.ranges.second) at c.number_length-2.ensures.length in
    let pair = simp (to_z-of_z, c.ranges.first, c.ranges.second) at c.in_ok-pair.ensures.pair in
    given_new c.args.trees.now c.pair_of_two.new.trees c.args.self.now.left _ _ _ _ _ c.in_ok-charge.charge c.in_ok-pair.pair c.answer.result
    (written_pair_is c.args.cost (shortest_atom c.args.first) (shortest_atom c.args.second) c.number_length.result c.number_length-2.result first second)
    c.in_ok-charge.ensures.ok c.in_ok-pair.ensures.grows (omega arith) c.in_ok-pair.ensures.known pair c.answer.ensures
