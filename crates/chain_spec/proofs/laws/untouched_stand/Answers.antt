use Rattle.chain_spec.proofs.LookLaws.{untouched}
use Rattle.chain_spec.proofs.laws.untouched_stand.Goals as goal

pub returns : goal.returns
returns c = untouched
