use Rattle.std.proofs.Common.{◌≡◌, ◌+◌, ◌*◌, ◌≤◌, [], ◌∷◌, length, drop}
use Rattle.clvm_spec.specs.Tree.{Atom}
use Rattle.clvm_tree.specs.Nodes.{tree_at, IsKnown, Grows}
use Rattle.clvm_tree.specs.Operators.{trees_at}
use Rattle.clvm_spec.specs.Currying.{environment_with}
use Rattle.lisp_library.proofs.currying.curry.Given as goal

abbrev pub invariant-loop-place : goal.invariant-loop-place
invariant-loop-place l = record {
  grows : Grows l.fn.trees l.trees;
  few : length l.trees + 4 * l.place ≤ length l.fn.trees + 4 * length l.arguments + 2;
  apply_known : IsKnown l.trees l.apply.0;
  apply : tree_at l.trees l.apply.0 ≡ Atom (2 ∷ []);
  cons_known : IsKnown l.trees l.cons.0;
  cons : tree_at l.trees l.cons.0 ≡ Atom (4 ∷ []);
  known : IsKnown l.trees l.environment.0;
  environment : tree_at l.trees l.environment.0 ≡ environment_with (trees_at l.fn.trees (drop l.place l.arguments));
}
