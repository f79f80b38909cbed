use Rattle.std.proofs.Common.{◌≡◌, ◌+◌, drop}
use Rattle.clvm_spec.specs.Path.{leading_zeros}
use Rattle.clvm_spec.proofs.arithmetic.leading_zero_bytes.Given as goal

abbrev pub invariant-loop-byte : goal.invariant-loop-byte
invariant-loop-byte l = (l.zeros ≡ l.byte-index) × (l.zeros + leading_zeros (drop l.byte-index l.path) ≡ leading_zeros l.path)
