use Rattle.std.proofs.Common.{◌≡◌, ℕ, ◌+◌, ◌≤◌, length, drop, vec_len}
use Rattle.clvm_spec.specs.Reading.{tree_at_front}
use Rattle.clvm_tree.specs.Nodes.{Grows}
use Rattle.clvm_tree.specs.Reads.{resumed, AreOpen}
use Rattle.clvm_tree.proofs.arena.Trees.read.Given as goal

abbrev pub invariant-heads : goal.invariant-heads
invariant-heads l = record {
  grows : Grows l.fn.self l.self;
  count : length l.self + vec_len l.begun + length l.rest ≤ length l.fn.self + length l.bytes;
  begun : AreOpen l.self l.begun.items;
  within : length l.rest ≤ length l.bytes;
  suffix : (k : ℕ) × (l.rest ≡ drop k l.bytes);
  same : tree_at_front l.bytes ≡ resumed l.self l.begun.items (tree_at_front l.rest);
}

abbrev pub decreases-heads : goal.decreases-heads
decreases-heads l = length l.rest
