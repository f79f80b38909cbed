use Rattle.std.proofs.Common.{◌≡◌, ◌∷◌, pos, ap, ◌∙◌}
use Rattle.std.specs.Int.{w128, to_be_bytes}
use Rattle.sha2.specs.Sha256.{sha256}
use Rattle.clvm_spec.specs.Numbers.{shortest_atom, without_sign_bytes}
use Rattle.block_form.proofs.hashes.amount_hash.Goals as goal

pub returns : goal.returns
unfolding shortest_atom
returns c =
    let bytes : c.to_be_bytes-bytes.result ≡ to_be_bytes w128 c.args.amount =
    c.to_be_bytes-bytes.ensures ∙ ap (to_be_bytes w128) c.from.ensures in
    let short : c.shortest_bytes.result.now ≡ shortest_atom (pos c.args.amount) =
    c.shortest_bytes.ensures ∙ ap without_sign_bytes (c.as_slice.ensures ∙ bytes) in
    c.atom_hash.ensures ∙ ap (λ atom. sha256 (1 ∷ atom)) short
