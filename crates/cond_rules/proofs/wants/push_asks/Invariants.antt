use Rattle.std.proofs.Common.{◌≡◌, ◌+◌, ◌≤◌, ◌++◌, length, take, vec_len, vec_capacity}
use Rattle.cond_rules.specs.Wants.{asks_at}
use Rattle.cond_rules.proofs.wants.push_asks.Given as goal

abbrev pub invariant-loop-want : goal.invariant-loop-want
invariant-loop-want l = record {
  asked : l.asked.items ≡ l.initial.asked.items ++ asks_at l.place (take l.want-index l.wants);
  room : vec_len l.asked + length l.wants ≤ vec_capacity l.asked + l.want-index;
}
