use Rattle.block_spec.proofs.WrittenLaws.{written-is-read}
use Rattle.block_spec.proofs.laws.written_is_read.Goals as goal

pub returns : goal.returns
returns c = written-is-read
