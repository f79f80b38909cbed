use Rattle.clvm_spec.proofs.Steps.{wide_law}
use Rattle.clvm_spec.proofs.fuel_laws.more_fuel_keeps_wide.Goals as goal

pub returns : goal.returns
returns c = wide_law
