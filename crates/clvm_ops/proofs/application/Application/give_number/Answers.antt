use Rattle.std.proofs.Common.{◌≡◌, ◌+◌, ◌*◌, ◌-◌, ◌∙◌, ap, sym}
use Rattle.std.specs.Prelude.{slice_range}
use Rattle.std.proofs.lemmas.Int.{to_z-of_z}
use Rattle.clvm_spec.specs.declared.costs.TheConstants.{RESULT_BYTE_COST}
use Rattle.clvm_spec.specs.Numbers.{shortest_atom}
use Rattle.clvm_spec.specs.Operators.{new_atom}
use Rattle.clvm_spec.proofs.LengthLaws.{shortest_end}
use Rattle.clvm_ops.proofs.Answered.{answers_same, new_number_held}
use Rattle.clvm_ops.proofs.application.Application.give_number.Goals as goal

pub returns : goal.returns
returns c =
    let size = c.number_length-size.result in
    let bytes = simp (to_z-of_z, c.ranges.number) at c.to_be_bytes-bytes.ensures in
    let long = simp (to_z-of_z, c.ranges.number) at c.number_length-size.ensures.length in
    let atom : shortest_atom c.args.number ≡ slice_range c.to_be_bytes-bytes.result (16 - size) 16 = sym (shortest_end c.args.number size c.to_be_bytes-bytes.result long bytes) in
    answers_same c.args.trees.now c.give_atom.new.trees c.args.self.now _ _ _
    (new_number_held c.args.cost c.args.number c.ranges.number ∙ ap (λ k. new_atom (c.args.cost + RESULT_BYTE_COST * k) (shortest_atom c.args.number)) (sym long) ∙ ap (new_atom (c.args.cost + RESULT_BYTE_COST * size)) atom) c.give_atom.ensures
