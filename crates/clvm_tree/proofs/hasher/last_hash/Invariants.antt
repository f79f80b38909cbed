use Rattle.clvm_tree.specs.Arena.{trees_of}
use Rattle.clvm_tree.specs.Uses.{IsReady}
use Rattle.clvm_tree.proofs.hasher.last_hash.Given as goal

abbrev pub invariant-loop-place : goal.invariant-loop-place
invariant-loop-place l = IsReady (trees_of l.bytes l.entries) l.uses l.kept l.place l.place
