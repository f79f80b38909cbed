use Rattle.std.proofs.Common.{◌≡◌, ◌*◌, ◌≤◌, take}
use Rattle.cond_spec.specs.Conditions.{cost_of_conditions}
use Rattle.cond_parse.proofs.cost.conditions_cost.Given as goal

abbrev pub invariant-loop-condition : goal.invariant-loop-condition
invariant-loop-condition l = record {
  total : l.cost ≡ cost_of_conditions (take l.condition-index l.condition-items);
  most : l.cost ≤ l.condition-index * 1_800_000;
}
