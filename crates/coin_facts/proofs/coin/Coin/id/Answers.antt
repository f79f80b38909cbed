use Rattle.std.proofs.Common.{◌≡◌, ◌++◌, pos, ap, ◌∙◌}
use Rattle.std.specs.Int.{w128, to_be_bytes}
use Rattle.sha2.specs.Sha256.{sha256}
use Rattle.clvm_spec.specs.Numbers.{shortest_atom, without_sign_bytes}
use Rattle.coin_facts.proofs.coin.Coin.id.Goals as goal

-- The bytes that are hashed are those of the amount's shortest atom.
pub returns : goal.returns
unfolding shortest_atom
returns c =
    let bytes : c.to_be_bytes-amount.result ≡ to_be_bytes w128 c.args.self.now.amount =
    c.to_be_bytes-amount.ensures ∙ ap (to_be_bytes w128) c.from.ensures in
    let short : c.shortest_bytes.result.now ≡ shortest_atom (pos c.args.self.now.amount) =
    c.shortest_bytes.ensures ∙ ap without_sign_bytes (c.as_slice.ensures ∙ bytes) in
    ap (λ d. record { bytes = d })
    (c.digest.ensures ∙ ap (λ a. sha256 (c.args.self.now.parent.bytes ++ c.args.self.now.puzzle_hash.bytes ++ a)) short)
