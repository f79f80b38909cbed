use Rattle.std.proofs.Common.{◌≡◌, ◌≤◌, count_by, take}
use Rattle.singleton_forward.specs.Outputs.{makes_odd}
use Rattle.singleton_forward.proofs.outputs.odd_count.Given as goal

abbrev pub invariant-loop-condition : goal.invariant-loop-condition
invariant-loop-condition l = record {
  counted : l.count ≡ count_by makes_odd (take l.condition-index l.conditions);
  few : l.count ≤ l.condition-index;
}
