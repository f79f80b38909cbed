use Rattle.clvm_spec.proofs.Steps.{done_law}
use Rattle.clvm_spec.proofs.fuel_laws.done_run_uses_the_same.Goals as goal

pub returns : goal.returns
returns c = done_law
