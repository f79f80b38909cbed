use Rattle.std.proofs.Common.{◌≡◌, drop}
use Rattle.clvm_spec.specs.Hashing.{list_hash}
use Rattle.clvm_tree.proofs.hasher.list_hash.Given as goal

abbrev pub invariant-loop-place : goal.invariant-loop-place
invariant-loop-place l = l.behind ≡ list_hash (drop l.place l.hashes)
