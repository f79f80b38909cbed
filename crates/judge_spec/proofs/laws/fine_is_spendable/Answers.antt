use Rattle.judge_spec.proofs.FineCoins.{fine-is-spendable, fine-costs-something, fine-fee-fits}
use Rattle.judge_spec.proofs.laws.fine_is_spendable.Goals as goal

pub returns-clause-coins : goal.returns-clause-coins
returns-clause-coins c = fine-is-spendable

pub returns-clause-cost : goal.returns-clause-cost
returns-clause-cost c = fine-costs-something

pub returns-clause-fee : goal.returns-clause-fee
returns-clause-fee c = fine-fee-fits
