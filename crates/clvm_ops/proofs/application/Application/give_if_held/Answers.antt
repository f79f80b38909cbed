use Rattle.std.proofs.Common.{FitsSigned, ap, sym, ◌∙◌, rules}
use Rattle.std.specs.Int.{w128}
use Rattle.std.proofs.lemmas.Int.{to_z-of_z}
use Rattle.clvm_spec.specs.Operators.{or_wide, new_number}
use Rattle.clvm_ops.proofs.Answered.{answers_same}
use Rattle.clvm_ops.proofs.application.Application.give_if_held.Goals as goal

pub returns-in-Some : goal.returns-in-Some
returns-in-Some c =
    let fits : FitsSigned w128 c.in-Some.number = search rules in
    let given = ap (new_number c.args.cost) (sym (to_z-of_z w128 c.in-Some.number fits)) in
    answers_same c.args.trees.now c.give_number.new.trees c.args.self.now _ _ _ (ap (λ held. or_wide held (new_number c.args.cost)) c.in-Some.is ∙ given) c.give_number.ensures
