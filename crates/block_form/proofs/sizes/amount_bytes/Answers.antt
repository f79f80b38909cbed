use Rattle.std.proofs.Common.{◌≡◌, length, pos, ap, ◌∙◌, arith}
use Rattle.std.specs.Int.{w128, to_be_bytes}
use Rattle.clvm_spec.specs.Numbers.{shortest_atom, without_sign_bytes}
use Rattle.clvm_spec.specs.Spelling.{atom_spelling}
use Rattle.block_form.proofs.AddedLaws.{without_sign_bytes-shrinks}
use Rattle.block_form.proofs.sizes.amount_bytes.Goals as goal

pub atom_bytes-requires : goal.atom_bytes-requires
atom_bytes-requires c =
    let sixteen : length c.as_slice.result.now ≡ 16 = ap length (c.as_slice.ensures ∙ c.to_be_bytes-bytes.ensures) in
    omega (arith, without_sign_bytes-shrinks c.as_slice.result.now, ap length c.shortest_bytes.ensures)

pub returns-clause-value : goal.returns-clause-value
unfolding shortest_atom
returns-clause-value c =
    let bytes : c.to_be_bytes-bytes.result ≡ to_be_bytes w128 c.args.amount =
    c.to_be_bytes-bytes.ensures ∙ ap (to_be_bytes w128) c.from.ensures in
    let short : c.shortest_bytes.result.now ≡ shortest_atom (pos c.args.amount) =
    c.shortest_bytes.ensures ∙ ap without_sign_bytes (c.as_slice.ensures ∙ bytes) in
    c.atom_bytes.ensures.value ∙ ap (λ atom. length (atom_spelling atom)) short
