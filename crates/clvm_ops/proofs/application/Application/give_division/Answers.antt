use Rattle.std.proofs.Common.{FitsSigned, sym, ap₂, ◌∙◌, rules}
use Rattle.std.specs.Int.{w128}
use Rattle.std.proofs.lemmas.Int.{to_z-of_z}
use Rattle.clvm_spec.specs.Numbers.{shortest_atom}
use Rattle.clvm_spec.specs.Operators.{written_pair}
use Rattle.clvm_ops.proofs.Answered.{answers_same}
use Rattle.clvm_ops.proofs.DivisionLaws.{pair_some}
use Rattle.clvm_ops.proofs.application.Application.give_division.Goals as goal

pub returns-in-Some : goal.returns-in-Some
returns-in-Some c =
    let quotient_fits : FitsSigned w128 c.in-Some.quotient = search rules in
    let rest_fits : FitsSigned w128 c.remainder_of-remainder.result = record { sfits = c.remainder_of-remainder.type_inv } in
    let quotient_is = simp (to_z-of_z, c.ranges.number, c.ranges.divisor) at c.in-Some.ensures in
    let rest_is = simp (to_z-of_z, c.ranges.number, c.ranges.divisor) at c.remainder_of-remainder.ensures in
    answers_same c.args.trees.now c.give_two.new.trees c.args.self.now _ _ _
    (pair_some c.args.cost c.in-Some.quotient c.remainder_of-remainder.result c.args.number c.args.divisor quotient_is rest_is rest_fits
    ∙ ap₂ (λ a b. written_pair c.args.cost (shortest_atom a) (shortest_atom b)) (sym (to_z-of_z w128 _ quotient_fits)) (sym (to_z-of_z w128 _ rest_fits))) c.give_two.ensures
