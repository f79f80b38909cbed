use Rattle.std.proofs.Common.{FitsSigned, ◌+◌, ◌*◌, length, sym, ap, ap₂, ◌∙◌, rules}
use Rattle.std.specs.Int.{w128}
use Rattle.std.proofs.lemmas.Int.{to_z-of_z}
use Rattle.clvm_spec.specs.declared.costs.TheConstants.{SHIFT_BYTE_COST}
use Rattle.clvm_spec.specs.Numbers.{shortest_atom}
use Rattle.clvm_spec.specs.Operators.{or_wide, new_number, new_shifted}
use Rattle.clvm_ops.proofs.Answered.{answers_same}
use Rattle.clvm_ops.proofs.application.Application.give_shifted.Goals as goal

pub returns-in-Some : goal.returns-in-Some
returns-in-Some c =
    let fits : FitsSigned w128 c.in-Some.number = search rules in
    let word = to_z-of_z w128 c.in-Some.number fits in
    let size = c.number_length.ensures.length ∙ ap (λ k. length (shortest_atom k)) word in
    answers_same c.args.trees.now c.give_number.new.trees c.args.self.now _ _ _
    (ap (λ held. or_wide held (new_shifted c.args.self.now.cost c.args.size)) c.in-Some.is
    ∙ ap₂ (λ k m. new_number (c.args.self.now.cost + SHIFT_BYTE_COST * (c.args.size + k)) m) (sym size) (sym word)) c.give_number.ensures
