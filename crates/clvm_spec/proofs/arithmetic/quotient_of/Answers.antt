use Rattle.std.proofs.Common.{ap, ◌∙◌, pos, ◌<ℤ◌, rules, arith}
use Rattle.std.specs.Prelude.{FitsSigned}
use Rattle.std.specs.Int.{w128}
use Rattle.std.proofs.lemmas.Int.{ints, to_z-of_z}
use Rattle.clvm_spec.specs.Arithmetic.{if_fits}
use Rattle.clvm_spec.proofs.Floor.{quotient_of-negative}
use Rattle.clvm_spec.proofs.arithmetic.quotient_of.Goals as goal

pub returns-then-divisor-lt0 : goal.returns-then-divisor-lt0
returns-then-divisor-lt0 c =
    let negative : c.args.divisor <ℤ pos 0 = first_of (search rules, grind (arith, ints), search (arith, ints, to_z-of_z)) in
    let by_euclid = simp (to_z-of_z, c.ranges.number, c.ranges.divisor) at c.div_euclid-quotient.ensures in
    let rest = simp (to_z-of_z, c.ranges.number, c.ranges.divisor) at c.rem_euclid.ensures.value in
    let lowered = quotient_of-negative c.args.number c.args.divisor c.div_euclid-quotient.result c.rem_euclid.result negative by_euclid rest in
    let quotient_fits : FitsSigned w128 c.div_euclid-quotient.result = record { sfits = c.div_euclid-quotient.type_inv } in
    let rest_fits : FitsSigned w128 c.rem_euclid.result = record { sfits = c.rem_euclid.type_inv } in
    let given = simp (to_z-of_z, quotient_fits, rest_fits) at c.less_one_unless_whole.ensures in
    given ∙ ap if_fits lowered
