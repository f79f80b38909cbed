use Rattle.std.proofs.Common.{◌≤◌, ◌-◌, length}
use Rattle.cond_rules.specs.Wants.{count_met}
use Rattle.cond_rules.proofs.wants.count_met.Given as goal

abbrev pub decreases-loop-met : goal.decreases-loop-met
decreases-loop-met l = length l.asked - l.met

abbrev pub invariant-loop-met : goal.invariant-loop-met
invariant-loop-met l = record {
  within : l.met ≤ length l.asked;
  counted : l.met ≤ count_met l.made.keys l.asked;
}
