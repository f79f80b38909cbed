use Rattle.std.proofs.Common.{take}
use Rattle.same_spend.proofs.MarkLaws.{HasSeen}
use Rattle.same_spend.proofs.alone.repeated_hashes.Given as goal

abbrev pub invariant-loop-hash : goal.invariant-loop-hash
invariant-loop-hash l = record {
  seen : HasSeen 0 l.seen (take l.hash-index l.hashes);
  repeated : HasSeen 1 l.repeated (take l.hash-index l.hashes);
}
