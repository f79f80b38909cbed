use Rattle.std.proofs.Common.{◌+◌, ◌≤◌, vec_len}
use Rattle.clvm_tree.specs.Nodes.{IsKnown, AreKnown}
use Rattle.clvm_ops.proofs.tests.elements.Given as goal

abbrev pub invariant-elements : goal.invariant-elements
invariant-elements l = IsKnown l.trees l.rest.0 × AreKnown l.trees l.nodes.items × (vec_len l.nodes + l.rest.0 ≤ l.fn.list.0)

abbrev pub decreases-elements : goal.decreases-elements
decreases-elements l = l.rest.0
