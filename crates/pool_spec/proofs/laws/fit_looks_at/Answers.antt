use Rattle.pool_spec.proofs.FitLaws.{fit-looks-at}
use Rattle.pool_spec.proofs.laws.fit_looks_at.Goals as goal

pub returns : goal.returns
returns c = fit-looks-at
