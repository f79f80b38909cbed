use Rattle.std.proofs.Common.{◌≡◌, ◌+◌, ◌≤◌, length}
use Rattle.clvm_spec.specs.Evaluation.{run_outcome}
use Rattle.clvm_tree.specs.Nodes.{tree_at, Grows}
use Rattle.clvm_eval.specs.Steps.{IsStep, outcome_of}
use Rattle.clvm_eval.proofs.machine.run.Given as goal

abbrev pub invariant-steps : goal.invariant-steps
invariant-steps g l = record {
  sound : IsStep l.trees l.state l.next;
  grows : Grows l.fn.trees l.trees;
  few : length l.trees + l.state.left.pairs + l.state.left.bytes ≤ length l.fn.trees + l.fn.fuel.pairs + l.fn.fuel.bytes;
  cost : l.state.left.cost ≤ l.fn.fuel.cost;
  same : outcome_of l.trees l.state l.next ≡ run_outcome (tree_at l.fn.trees l.fn.program.0) (tree_at l.fn.trees l.fn.env.0) l.fn.fuel;
}

abbrev pub decreases-steps : goal.decreases-steps
decreases-steps g l = l.state.left.cost
