use Rattle.chain_spec.proofs.PairLaws.{pairs-stand}
use Rattle.chain_spec.proofs.laws.pairs_stand.Goals as goal

pub returns : goal.returns
returns c = pairs-stand
