use Rattle.std.proofs.Common.{◌≡◌, ◌+◌, ◌≤◌, ◌++◌, length}
use Rattle.std.specs.Prelude.{option_map}
use Rattle.clvm_tree.specs.Nodes.{tree_at, IsKnown}
use Rattle.pool_core.specs.Payments.{paid_coins}
use Rattle.pool_core.proofs.conditions.coins.Given as goal

abbrev pub invariant-loop-condition : goal.invariant-loop-condition
invariant-loop-condition l = record {
  known : IsKnown l.trees l.rest.0;
  few : length l.coins + l.rest.0 ≤ l.fn.value.0;
  found : paid_coins l.parent (tree_at l.trees l.fn.value.0) ≡ option_map (λ more. l.coins ++ more) (paid_coins l.parent (tree_at l.trees l.rest.0));
}

abbrev pub decreases-loop-condition : goal.decreases-loop-condition
decreases-loop-condition l = l.rest.0
