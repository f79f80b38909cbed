use Rattle.std.proofs.Common.{refl}
use Rattle.session_spec.proofs.laws.names_of_conditions.Goals as goal

pub returns : goal.returns
returns c = refl
