use Rattle.std.proofs.Common.{◌≡◌, ℕ, ◌+◌, ◌<◌, ◌≤◌, ◌^◌}
use Rattle.clvm_spec.specs.Path.{followed}
use Rattle.clvm_tree.specs.Nodes.{tree_at, IsKnown}
use Rattle.clvm_eval.proofs.path.descend.Given as goal

abbrev pub invariant-bits : goal.invariant-bits
invariant-bits l = record {
  known : IsKnown l.trees l.at.node.0;
  few : l.at.node.0 + l.at.steps ≤ l.fn.from.node.0 + l.fn.from.steps;
  same : (bound : ℕ) → l.bits < 2 ^ bound → (rest : ℕ) × (l.left < 2 ^ rest)
      × (followed bound l.bits l.fn.from.steps (tree_at l.trees l.fn.from.node.0) ≡ followed rest l.left l.at.steps (tree_at l.trees l.at.node.0));
}

abbrev pub decreases-bits : goal.decreases-bits
decreases-bits l = l.left
