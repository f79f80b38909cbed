use Rattle.std.proofs.Common.{◌≡◌, drop}
use Rattle.std.specs.Int.Digits.{number_from_digits_after}
use Rattle.clvm_spec.specs.Numbers.{unsigned}
use Rattle.pool_core.proofs.operands.unsigned.Given as goal

abbrev pub invariant-loop-byte : goal.invariant-loop-byte
invariant-loop-byte l = number_from_digits_after 256 l.value (drop l.byte-index l.bytes) ≡ unsigned l.bytes
