use Rattle.std.proofs.Common.{◌≡◌, ◌+◌, ◌≤◌, length}
use Rattle.clvm_tree.specs.Nodes.{tree_at, IsKnown}
use Rattle.cond_spec.specs.Conditions.{conditions_from}
use Rattle.cond_parse.proofs.ListingLaws.{in_front_of}
use Rattle.cond_parse.proofs.listing.conditions.Given as goal

-- The conditions so far stand in front of those of the node, which are earlier nodes.
abbrev pub invariant-loop-first : goal.invariant-loop-first
invariant-loop-first l = record {
  known : IsKnown l.trees l.node.0;
  within : l.place + l.node.0 ≤ l.fn.value.0;
  count : l.place ≡ length l.list;
  listed : in_front_of l.list (conditions_from l.place (tree_at l.trees l.node.0)) ≡ conditions_from 0 (tree_at l.trees l.fn.value.0);
}

abbrev pub decreases-loop-first : goal.decreases-loop-first
decreases-loop-first l = l.node.0
