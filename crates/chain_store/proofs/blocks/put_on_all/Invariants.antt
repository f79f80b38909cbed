use Rattle.std.proofs.Common.{◌≡◌, ◌+◌, ◌≤◌, drop}
use Rattle.std.specs.List.{sum_by}
use Rattle.chain_store.specs.Blocks.{created_count, with_blocks, AreNewInTurn}
use Rattle.chain_store.proofs.blocks.put_on_all.Given as goal

abbrev pub invariant-loop-place : goal.invariant-loop-place
invariant-loop-place l =
    AreNewInTurn (l.below + l.place) l.records.list (drop l.place l.blocks)
    × (with_blocks (l.below + l.place) (drop l.place l.blocks) l.records.list ≡ with_blocks l.fn.below l.fn.blocks l.fn.records.list)
    × (sum_by created_count (drop l.place l.blocks) ≤ l.records.room)
