use Rattle.judge_spec.proofs.CheckLaws.{first-is-told, none-is-told}
use Rattle.judge_spec.proofs.laws.first_is_told.Goals as goal

pub returns-clause-broken : goal.returns-clause-broken
returns-clause-broken c = first-is-told

pub returns-clause-kept : goal.returns-clause-kept
returns-clause-kept c = none-is-told
