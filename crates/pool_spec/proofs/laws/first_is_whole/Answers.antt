use Rattle.pool_spec.proofs.FirstLaws.{first-is-whole}
use Rattle.pool_spec.proofs.laws.first_is_whole.Goals as goal

pub returns : goal.returns
returns c = first-is-whole
