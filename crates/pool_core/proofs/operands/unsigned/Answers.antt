use Rattle.std.proofs.Common.{◌≤◌, ◌^◌, drop, arith}
use Rattle.std.specs.Int.Digits.{number_from_digits_after}
use Rattle.std.proofs.lemmas.Bool.Decides.{nat_tests}
use Rattle.pool_core.proofs.Digits.{too_large}
use Rattle.pool_core.proofs.operands.unsigned.Goals as goal

pub returns-then-value-ge72057594037927936 : goal.returns-then-value-ge72057594037927936
returns-then-value-ge72057594037927936 c =
    let l = c.loop-byte in
    let large : 2 ^ 64 ≤ number_from_digits_after 256 l.value (drop l.byte-index c.args.bytes.now) = too_large l.value l.byte-index c.args.bytes.now (omega arith) (omega arith) in
    grind (arith, nat_tests)
