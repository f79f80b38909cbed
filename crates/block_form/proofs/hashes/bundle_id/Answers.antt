use Rattle.std.proofs.Common.{◌≡◌, ◌∷◌, ◌++◌, ap, ◌∙◌}
use Rattle.sha2.specs.Sha256.{sha256}
use Rattle.clvm_spec.specs.Hashing.{tree_hash}
use Rattle.block_spec.specs.BundleTree.{spends_tree, attested_tree, bundle_id}
use Rattle.block_form.proofs.hashes.bundle_id.Goals as goal

pub returns : goal.returns
unfolding bundle_id
returns c =
    let bundle = c.args.bundle.now in
    let spends : c.in_ok-spends.spends ≡ tree_hash (spends_tree bundle.spends) =
    c.in_ok-spends.ensures ∙ ap (λ spends. tree_hash (spends_tree spends)) c.as_slice.ensures.value in
    let attested : c.in_ok-attested.attested ≡ tree_hash (attested_tree bundle.attested) =
    c.in_ok-attested.ensures ∙ ap (λ attested. tree_hash (attested_tree attested)) c.as_slice-2.ensures.value in
    ap (λ d. record { bytes = d }) (c.pair_hash.ensures ∙ (λ j. sha256 (2 ∷ spends j ++ attested j)))
