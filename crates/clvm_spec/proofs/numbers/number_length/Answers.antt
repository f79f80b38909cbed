use Rattle.std.proofs.Common.{◌≡◌, FitsSigned, of_z, to_z, length, pos, ap, sym, ◌∙◌, arith}
use Rattle.std.specs.Int.{w128, leading_zeros}
use Rattle.std.proofs.lemmas.Int.{to_z-of_z}
use Rattle.clvm_spec.specs.Numbers.{shortest_atom}
use Rattle.clvm_spec.proofs.LengthLaws.{length_is, length_most, length_zero}
use Rattle.clvm_spec.proofs.numbers.number_length.Goals as goal

pub returns-then-number-eq0-clause-length : goal.returns-then-number-eq0-clause-length
returns-then-number-eq0-clause-length c =
    let zero : c.args.number ≡ pos 0 = sym (to_z-of_z w128 c.args.number c.ranges.number) ∙ ap (to_z w128) c.if-number-eq0.true in
    length_zero ∙ ap (λ n. length (shortest_atom n)) (sym zero)

pub returns-clause-length : goal.returns-clause-length
returns-clause-length c =
    let passed = to_z-of_z w128 c.args.number c.ranges.number in
    let value = c.without_sign.result in
    let fits : FitsSigned w128 value = record { sfits = c.without_sign.type_inv } in
    length_is c.args.number value c.leading_zeros-bits.result c.ranges.number
    (λ zero. c.if-number-eq0.false (ap (of_z w128) zero))
    (λ n is. c.without_sign.ensures.positive n (passed ∙ is))
    (λ n is. c.without_sign.ensures.negative n (passed ∙ is))
    (c.leading_zeros-bits.ensures ∙ ap (λ v. leading_zeros w128 (of_z w128 v)) (to_z-of_z w128 value fits))

pub returns-clause-few : goal.returns-clause-few
returns-clause-few c = omega (arith, returns-clause-length c, length_most c.args.number)
