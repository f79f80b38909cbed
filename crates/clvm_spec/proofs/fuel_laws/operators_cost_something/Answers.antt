use Rattle.clvm_spec.proofs.OperatorCosts.{operators_law}
use Rattle.clvm_spec.proofs.fuel_laws.operators_cost_something.Goals as goal

pub returns : goal.returns
returns c = operators_law
