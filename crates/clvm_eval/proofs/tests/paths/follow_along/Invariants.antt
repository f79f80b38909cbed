use Rattle.std.proofs.Common.{◌+◌, ◌≤◌, length}
use Rattle.clvm_tree.specs.Nodes.{IsKnown}
use Rattle.clvm_tree.specs.declared.arena.TheConstants.{FIRST_COUNT}
use Rattle.clvm_eval.proofs.tests.paths.follow_along.Given as goal

abbrev pub invariant-turns : goal.invariant-turns
invariant-turns l = record {
  known : IsKnown l.trees l.env.0;
  nil_known : IsKnown l.trees l.nil.0;
  within : l.left ≤ length l.turns;
  few : length l.trees + l.left ≤ FIRST_COUNT + length l.turns;
}

abbrev pub decreases-turns : goal.decreases-turns
decreases-turns l = l.left
