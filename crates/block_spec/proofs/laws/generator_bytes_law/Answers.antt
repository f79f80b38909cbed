use Rattle.block_spec.proofs.AddedLaws.{adds_up}
use Rattle.block_spec.proofs.laws.generator_bytes_law.Goals as goal

pub returns : goal.returns
returns c = adds_up
