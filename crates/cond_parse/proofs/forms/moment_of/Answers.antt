use Rattle.std.proofs.Common.{◌≡◌, FitsSigned, Some, ap, ◌∙◌, arith, true, false}
use Rattle.std.specs.Int.{w128, to_be_bytes, cast_unsigned}
use Rattle.std.proofs.lemmas.Int.{to_z-of_z}
use Rattle.std.proofs.lemmas.Bool.Decides.{nat_tests}
use Rattle.clvm_spec.specs.Numbers.{is_short, shortest_atom, without_sign_bytes}
use Rattle.cond_parse.proofs.FormLaws.{is_moment_of}
use Rattle.cond_parse.proofs.forms.moment_of.Goals as goal

pub returns-then-eq : goal.returns-then-eq
unfolding shortest_atom
returns-then-eq c =
    let moment = c.number-moment.result in
    let fits : FitsSigned w128 moment = record { sfits = c.number-moment.type_inv } in
    let short : c.shortest_bytes.result.now ≡ shortest_atom moment = c.shortest_bytes.ensures ∙ ap without_sign_bytes (c.as_slice.ensures ∙ c.to_be_bytes-digits.ensures ∙ ap (λ z. to_be_bytes w128 (cast_unsigned w128 z)) (to_z-of_z w128 moment fits)) in
    let few : is_short c.args.bytes.now ≡ true = grind (arith, nat_tests) in
    ap Some (to_z-of_z w128 moment fits ∙ c.number-moment.ensures) ∙ is_moment_of moment c.args.bytes.now c.shortest_bytes.result.now true c.number-moment.ensures short few c.if-eq.ensures

pub returns-else-eq : goal.returns-else-eq
unfolding shortest_atom
returns-else-eq c =
    let moment = c.number-moment.result in
    let fits : FitsSigned w128 moment = record { sfits = c.number-moment.type_inv } in
    let short : c.shortest_bytes.result.now ≡ shortest_atom moment = c.shortest_bytes.ensures ∙ ap without_sign_bytes (c.as_slice.ensures ∙ c.to_be_bytes-digits.ensures ∙ ap (λ z. to_be_bytes w128 (cast_unsigned w128 z)) (to_z-of_z w128 moment fits)) in
    let few : is_short c.args.bytes.now ≡ true = grind (arith, nat_tests) in
    is_moment_of moment c.args.bytes.now c.shortest_bytes.result.now false c.number-moment.ensures short few c.if-eq.ensures
