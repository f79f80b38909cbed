use Rattle.std.proofs.Common.{◌+◌, ◌*◌, ◌-◌, ◌≤◌, length}
use Rattle.clvm_tree.specs.Nodes.{IsKnown}
use Rattle.clvm_tree.specs.declared.arena.TheConstants.{FIRST_COUNT}
use Rattle.clvm_eval.proofs.tests.deep_run.Given as goal

abbrev pub invariant-levels : goal.invariant-levels
invariant-levels l = record {
  known : IsKnown l.trees l.program.0;
  few : length l.trees ≤ FIRST_COUNT + 5 * l.level;
  low : l.level ≤ 100000;
}

abbrev pub decreases-levels : goal.decreases-levels
decreases-levels l = 100000 - l.level
