use Rattle.std.proofs.Common.{◌≡◌, map, take}
use Rattle.clvm_spec.specs.Hashing.{tree_hash}
use Rattle.block_spec.specs.BundleTree.{spend_tree}
use Rattle.block_form.proofs.hashes.spends_hash.Given as goal

abbrev pub invariant-loop-spend : goal.invariant-loop-spend
invariant-loop-spend l =
    l.hashes.items ≡ map (λ spend. tree_hash (spend_tree spend)) (take l.spend-index l.spends)
