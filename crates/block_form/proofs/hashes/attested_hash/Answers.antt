use Rattle.std.proofs.Common.{◌≡◌, map, take, ap, ◌∙◌, arith}
use Rattle.std.proofs.lemmas.List.{take_all}
use Rattle.clvm_spec.specs.Hashing.{list_hash, tree_hash}
use Rattle.block_spec.specs.BundleTree.{signed_tree}
use Rattle.block_form.proofs.HashLaws.{list_hash-map}
use Rattle.block_form.proofs.hashes.attested_hash.Goals as goal

pub returns : goal.returns
returns c =
    let attested = c.args.attested.now in
    let whole : take c.loop-signed.signed-index attested ≡ attested = take_all _ _ (omega arith) in
    c.list_hash.ensures
    ∙ ap list_hash (c.deref.ensures.value ∙ c.loop-signed.invariant ∙ ap (map (λ signed. tree_hash (signed_tree signed))) whole)
    ∙ list_hash-map signed_tree attested
