use Rattle.chain_spec.proofs.DistinctLaws.{records-apart}
use Rattle.chain_spec.proofs.laws.records_are_apart.Goals as goal

pub returns : goal.returns
returns c = records-apart
