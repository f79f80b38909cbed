use Rattle.std.proofs.Common.{◌≡◌, pos, ap, ◌∙◌}
use Rattle.std.specs.Int.{w128, to_be_bytes}
use Rattle.clvm_spec.specs.Numbers.{shortest_atom, without_sign_bytes}
use Rattle.pool_core.proofs.Amounts.{is_amount_of, no_amount_of}
use Rattle.pool_core.proofs.operands.amount_of.Goals as goal

pub returns-then-eq : goal.returns-then-eq
unfolding shortest_atom
returns-then-eq c =
    let digits = c.to_be_bytes-digits.ensures ∙ ap (to_be_bytes w128) c.from.ensures in
    let short : c.shortest_bytes.result.now ≡ shortest_atom (pos c.in_ok-value.value) = c.shortest_bytes.ensures ∙ ap without_sign_bytes (c.as_slice.ensures ∙ digits) in
    is_amount_of c.args.bytes.now c.in_ok-value.value c.shortest_bytes.result.now c.in_ok-value.ensures short c.if-eq.ensures

pub returns-else-eq : goal.returns-else-eq
unfolding shortest_atom
returns-else-eq c =
    let digits = c.to_be_bytes-digits.ensures ∙ ap (to_be_bytes w128) c.from.ensures in
    let short : c.shortest_bytes.result.now ≡ shortest_atom (pos c.in_ok-value.value) = c.shortest_bytes.ensures ∙ ap without_sign_bytes (c.as_slice.ensures ∙ digits) in
    no_amount_of c.args.bytes.now c.in_ok-value.value c.shortest_bytes.result.now c.in_ok-value.ensures short c.if-eq.ensures
