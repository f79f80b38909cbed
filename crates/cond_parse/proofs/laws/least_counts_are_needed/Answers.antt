use Rattle.cond_parse.proofs.KindLaws.{too_few}
use Rattle.cond_parse.proofs.laws.least_counts_are_needed.Goals as goal

pub returns : goal.returns
returns c = too_few
