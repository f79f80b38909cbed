use Rattle.std.proofs.Common.{arith}
use Rattle.hex.proofs.HexLemmas.{decode_of-ok}
use Rattle.clvm_input.proofs.text.bytes_of.Goals as goal

pub returns-in-Ok-clause-short : goal.returns-in-Ok-clause-short
returns-in-Ok-clause-short c = let whole = decode_of-ok c.digits_of.result.now c.in-Ok.bytes.items c.in-Ok.ensures.ok in omega (arith, whole.2, c.digits_of.ensures.short)
