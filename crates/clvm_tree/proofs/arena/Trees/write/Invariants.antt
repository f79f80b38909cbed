use Rattle.std.proofs.Common.{◌≡◌, ◌+◌, ◌-◌, ◌≤◌, ◌++◌, vec_len}
use Rattle.clvm_spec.specs.Spelling.{spelling}
use Rattle.clvm_tree.specs.Nodes.{tree_at, AreKnown}
use Rattle.clvm_tree.proofs.PendingLaws.{spellings}
use Rattle.clvm_tree.proofs.arena.Trees.write.Given as goal

abbrev pub invariant-nodes : goal.invariant-nodes
invariant-nodes l = record {
  known : AreKnown l.self l.pending.items;
  within : vec_len l.out ≤ l.most;
  written : l.out.items ++ spellings l.self l.pending.items ≡ spelling (tree_at l.self l.fn.node.0);
}

abbrev pub decreases-nodes : goal.decreases-nodes
decreases-nodes l = l.most + 1 - vec_len l.out
