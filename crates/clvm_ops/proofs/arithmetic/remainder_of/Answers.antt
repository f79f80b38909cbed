use Rattle.std.proofs.Common.{◌∙◌, pos, ◌<ℤ◌, rules}
use Rattle.std.specs.Prelude.{FitsSigned}
use Rattle.std.specs.Int.{w128}
use Rattle.std.proofs.lemmas.Int.{to_z-of_z}
use Rattle.clvm_ops.proofs.Rests.{rest_below}
use Rattle.clvm_ops.proofs.arithmetic.remainder_of.Goals as goal

pub returns-then-divisor-lt0 : goal.returns-then-divisor-lt0
returns-then-divisor-lt0 c =
    let negative : c.args.divisor <ℤ pos 0 = search rules in
    let fits : FitsSigned w128 c.rem_euclid-rest.result = record { sfits = c.rem_euclid-rest.type_inv } in
    let lowered : FitsSigned w128 c.lowered_unless_whole.result = record { sfits = c.lowered_unless_whole.type_inv } in
    let rest = simp (to_z-of_z, c.ranges.number, c.ranges.divisor) at c.rem_euclid-rest.ensures.value in
    let given = simp (to_z-of_z, fits, c.ranges.divisor) at c.lowered_unless_whole.ensures in
    to_z-of_z w128 _ lowered ∙ given ∙ rest_below c.args.number c.args.divisor c.rem_euclid-rest.result negative rest
