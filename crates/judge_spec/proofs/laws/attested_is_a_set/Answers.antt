use Rattle.judge_spec.proofs.CheckLaws.{attested-is-a-set}
use Rattle.judge_spec.proofs.laws.attested_is_a_set.Goals as goal

pub returns : goal.returns
returns c = attested-is-a-set
