use Rattle.std.proofs.Common.{◌≡◌, take}
use Rattle.std.specs.List.{sum_by}
use Rattle.chain_store.specs.Blocks.{created_count}
use Rattle.chain_store.proofs.blocks.created_by.Given as goal

abbrev pub invariant-loop-block : goal.invariant-loop-block
invariant-loop-block l = l.count ≡ sum_by created_count (take l.block-index l.blocks)
