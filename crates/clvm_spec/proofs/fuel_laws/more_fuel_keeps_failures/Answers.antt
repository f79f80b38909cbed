use Rattle.clvm_spec.proofs.Steps.{failures_law}
use Rattle.clvm_spec.proofs.fuel_laws.more_fuel_keeps_failures.Goals as goal

pub returns : goal.returns
returns c = failures_law
