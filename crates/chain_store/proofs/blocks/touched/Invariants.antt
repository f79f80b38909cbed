use Rattle.std.proofs.Common.{◌≡◌, ◌++◌, length}
use Rattle.std.specs.Prelude.{reverse}
use Rattle.std.specs.List.{flat_map}
use Rattle.chain_spec.specs.Chain.{touched_by}
use Rattle.chain_store.proofs.blocks.touched.Given as goal

abbrev pub invariant-loop-last : goal.invariant-loop-last
invariant-loop-last l = l.ids.items ++ flat_map touched_by (reverse l.left) ≡ flat_map touched_by (reverse l.fn.blocks)

abbrev pub decreases-loop-last : goal.decreases-loop-last
decreases-loop-last l = length l.left
