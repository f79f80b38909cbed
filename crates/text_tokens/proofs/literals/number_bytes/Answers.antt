use Rattle.std.proofs.Common.{◌≡◌, ◌∙◌, ap, subst}
use Rattle.std.specs.Prelude.{IfOk}
use Rattle.std.specs.Int.{w128, to_be_bytes, cast_unsigned}
use Rattle.std.proofs.lemmas.Int.{to_z-of_z}
use Rattle.clvm_spec.specs.Numbers.{shortest_atom, without_sign_bytes}
use Rattle.text_tokens.proofs.literals.number_bytes.Goals as goal

pub returns : goal.returns
unfolding shortest_atom
returns c =
    let passed = to_z-of_z w128 c.args.number c.ranges.number in
    let shortest = c.shortest_bytes.ensures ∙ ap without_sign_bytes (c.to_be_bytes-bytes.ensures ∙ ap (λ z. to_be_bytes w128 (cast_unsigned w128 z)) passed) in
    subst (λ bytes. IfOk c.from_slice.result (λ made. made.items ≡ bytes)) shortest c.from_slice.ensures.items
