use Rattle.std.proofs.Common.{◌≡◌, ◌+◌, ◌^◌, ◌≤◌, drop}
use Rattle.clvm_spec.specs.TextLaws.{nests_within}
use Rattle.clvm_spec.proofs.nesting.nests_within.Given as goal

abbrev pub invariant-loop-byte : goal.invariant-loop-byte
invariant-loop-byte l = (l.room ≤ 2 ^ 64 + l.byte-index) × (nests_within l.fn.room l.text ≡ nests_within l.room (drop l.byte-index l.text))
