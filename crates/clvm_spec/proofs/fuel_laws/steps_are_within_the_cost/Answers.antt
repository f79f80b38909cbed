use Rattle.clvm_spec.proofs.Steps.{steps_law}
use Rattle.clvm_spec.proofs.fuel_laws.steps_are_within_the_cost.Goals as goal

pub returns : goal.returns
returns c = steps_law
