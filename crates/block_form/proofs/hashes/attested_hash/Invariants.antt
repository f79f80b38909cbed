use Rattle.std.proofs.Common.{◌≡◌, map, take}
use Rattle.clvm_spec.specs.Hashing.{tree_hash}
use Rattle.block_spec.specs.BundleTree.{signed_tree}
use Rattle.block_form.proofs.hashes.attested_hash.Given as goal

abbrev pub invariant-loop-signed : goal.invariant-loop-signed
invariant-loop-signed l =
    l.hashes.items ≡ map (λ signed. tree_hash (signed_tree signed)) (take l.signed-index l.attested)
