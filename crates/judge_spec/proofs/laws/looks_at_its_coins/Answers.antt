use Rattle.judge_spec.proofs.AgreementLaws.{looks-at-its-coins, spends-look-at-their-coins}
use Rattle.judge_spec.proofs.laws.looks_at_its_coins.Goals as goal

pub returns-clause-facts : goal.returns-clause-facts
returns-clause-facts c = looks-at-its-coins

pub returns-clause-spends : goal.returns-clause-spends
returns-clause-spends c = spends-look-at-their-coins
