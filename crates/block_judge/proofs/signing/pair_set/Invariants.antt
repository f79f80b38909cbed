use Rattle.std.proofs.Common.{take}
use Rattle.block_judge.specs.Signatures.{HasPairs}
use Rattle.block_judge.proofs.signing.pair_set.Given as goal

abbrev pub invariant-loop-signed : goal.invariant-loop-signed
invariant-loop-signed l = HasPairs l.set (take l.signed-index l.attested)
