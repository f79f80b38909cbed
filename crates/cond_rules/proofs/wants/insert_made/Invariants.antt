use Rattle.std.proofs.Common.{◌+◌, ◌≤◌, length, take}
use Rattle.indexmap.specs.IndexSet.{spare}
use Rattle.cond_rules.specs.Wants.{Makes}
use Rattle.cond_rules.proofs.wants.insert_made.Given as goal

abbrev pub invariant-loop-want : goal.invariant-loop-want
invariant-loop-want l = record {
  made : Makes l.initial.made.keys (take l.want-index l.wants) l.made.keys;
  room : length l.wants ≤ spare l.made + l.want-index;
}
