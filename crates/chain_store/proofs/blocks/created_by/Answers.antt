use Rattle.std.proofs.Common.{ap, ◌∙◌, take_all}
use Rattle.std.specs.List.{sum_by}
use Rattle.chain_store.specs.Blocks.{created_count}
use Rattle.chain_store.proofs.blocks.created_by.Goals as goal

pub returns : goal.returns
returns c = c.loop-block.invariant ∙ ap (sum_by created_count) (take_all c.loop-block.block-index c.args.blocks.now c.loop-block-test.false)
