use Rattle.std.proofs.Common.{◌≡◌, ℕ, List, ◌+◌, ◌≤◌, length, vec_len}
use Rattle.clvm_spec.specs.Reading.{Found}
use Rattle.clvm_tree.specs.Nodes.{tree_at, IsKnown, Grows}
use Rattle.clvm_tree.specs.Reads.{resumed, AreOpen}
use Rattle.clvm_tree.proofs.arena.Trees.close.Given as goal

abbrev pub invariant-pairs : goal.invariant-pairs
invariant-pairs l = record {
  grows : Grows l.fn.self l.self;
  count : length l.self + vec_len l.begun ≤ length l.fn.self + vec_len l.fn.begun;
  known : IsKnown l.self l.whole.0;
  begun : AreOpen l.self l.begun.items;
  same : (rest : List ℕ) → resumed l.fn.self l.fn.begun.items (Found (tree_at l.fn.self l.fn.tree.0) rest) ≡ resumed l.self l.begun.items (Found (tree_at l.self l.whole.0) rest);
}

abbrev pub decreases-pairs : goal.decreases-pairs
decreases-pairs l = vec_len l.begun
