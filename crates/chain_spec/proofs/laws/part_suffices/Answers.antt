use Rattle.chain_spec.proofs.LookLaws.{suffices-ids, suffices-pairs}
use Rattle.chain_spec.proofs.laws.part_suffices.Goals as goal

pub returns-clause-ids : goal.returns-clause-ids
returns-clause-ids c = suffices-ids

pub returns-clause-pairs : goal.returns-clause-pairs
returns-clause-pairs c = suffices-pairs
