use Rattle.clvm_spec.proofs.Steps.{one_step_law}
use Rattle.clvm_spec.proofs.fuel_laws.evaluation_is_its_step.Goals as goal

pub returns : goal.returns
returns c = one_step_law
