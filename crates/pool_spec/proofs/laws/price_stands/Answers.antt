use Rattle.pool_spec.proofs.FitLaws.{price-stands}
use Rattle.pool_spec.proofs.laws.price_stands.Goals as goal

pub returns : goal.returns
returns c = price-stands
