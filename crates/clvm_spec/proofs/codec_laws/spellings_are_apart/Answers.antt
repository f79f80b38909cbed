use Rattle.clvm_spec.proofs.WholeLaws.{one_spelling, begins_no_other}
use Rattle.clvm_spec.proofs.codec_laws.spellings_are_apart.Goals as goal

pub returns-clause-one : goal.returns-clause-one
returns-clause-one c = one_spelling

pub returns-clause-apart : goal.returns-clause-apart
returns-clause-apart c = begins_no_other
