use Rattle.std.proofs.Common.{◌≡◌, ℕ, ◌≤◌, length}
use Rattle.clvm_tree.specs.Uses.{use_of, IsClosedFrom}
use Rattle.clvm_tree.proofs.hasher.use_all.Given as goal

abbrev pub invariant-loop-place : goal.invariant-loop-place
invariant-loop-place l = record {
  long : length l.uses ≡ length l.fn.uses;
  closed : IsClosedFrom l.entries l.uses l.place;
  kept : (k : ℕ) → use_of l.fn.uses k ≤ use_of l.uses k;
}
