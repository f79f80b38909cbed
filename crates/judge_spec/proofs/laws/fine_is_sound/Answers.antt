use Rattle.judge_spec.proofs.FineLaws.{fine-is-kept, fine-is-within}
use Rattle.judge_spec.proofs.laws.fine_is_sound.Goals as goal

pub returns-clause-kept : goal.returns-clause-kept
returns-clause-kept c = fine-is-kept

pub returns-clause-within : goal.returns-clause-within
returns-clause-within c = fine-is-within
