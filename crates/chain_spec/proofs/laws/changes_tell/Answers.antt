use Rattle.chain_spec.proofs.MoveLaws.{changes-grow, changes-tell}
use Rattle.chain_spec.proofs.laws.changes_tell.Goals as goal

pub returns-clause-grow : goal.returns-clause-grow
returns-clause-grow c = changes-grow

pub returns-clause-tell : goal.returns-clause-tell
returns-clause-tell c = changes-tell
