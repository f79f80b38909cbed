use Rattle.std.proofs.Common.{◌≡◌, ◌+◌, ◌*◌, ◌<◌, ◌≤◌, length, take}
use Rattle.clvm_spec.specs.Numbers.{unsigned}
use Rattle.clvm_spec.specs.Path.{followed, path_value}
use Rattle.clvm_tree.specs.Nodes.{tree_at, IsKnown}
use Rattle.clvm_eval.proofs.path.follow.Given as goal

abbrev pub invariant-bytes : goal.invariant-bytes
invariant-bytes l = record {
  low : l.zeros < l.end;
  high : l.end ≤ length l.path;
  known : IsKnown l.trees l.at.node.0;
  few : l.at.node.0 + l.at.steps ≤ l.fn.env.0;
  same : path_value l.path (tree_at l.trees l.fn.env.0) ≡ followed (8 * l.end) (unsigned (take l.end l.path)) l.at.steps (tree_at l.trees l.at.node.0);
}

abbrev pub decreases-bytes : goal.decreases-bytes
decreases-bytes l = l.end
