use Rattle.judge_spec.proofs.PartLaws.{records-agree, part-decides}
use Rattle.judge_spec.proofs.laws.part_decides.Goals as goal

pub returns-clause-agree : goal.returns-clause-agree
returns-clause-agree c = records-agree

pub returns-clause-part : goal.returns-clause-part
returns-clause-part c = part-decides
