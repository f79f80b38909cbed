use Rattle.std.proofs.Common.{◌≡◌, ◌≤◌, length}
use Rattle.chain_store.specs.Blocks.{without_blocks}
use Rattle.chain_store.proofs.blocks.take_off_all.Given as goal

abbrev pub invariant-loop-last : goal.invariant-loop-last
invariant-loop-last l =
    (without_blocks l.left l.records.list ≡ without_blocks l.fn.blocks l.fn.records.list) × (l.fn.records.room ≤ l.records.room)

abbrev pub decreases-loop-last : goal.decreases-loop-last
decreases-loop-last l = length l.left
