use Rattle.pool_spec.proofs.ReplacedLaws.{replaced-are-others}
use Rattle.pool_spec.proofs.laws.replaced_are_others.Goals as goal

pub returns : goal.returns
returns c = replaced-are-others
