use Rattle.pool_spec.proofs.PriceLaws.{priced-is-fine}
use Rattle.pool_spec.proofs.laws.priced_is_fine.Goals as goal

pub returns : goal.returns
returns c = priced-is-fine
