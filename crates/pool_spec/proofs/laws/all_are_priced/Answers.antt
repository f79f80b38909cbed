use Rattle.pool_spec.proofs.ReplacedLaws.{staying-are-priced, admitted-are-priced}
use Rattle.pool_spec.proofs.laws.all_are_priced.Goals as goal

pub returns-clause-staying : goal.returns-clause-staying
returns-clause-staying c = staying-are-priced

pub returns-clause-admitted : goal.returns-clause-admitted
returns-clause-admitted c = admitted-are-priced
