use Rattle.judge_spec.proofs.GrowthLaws.{spent-twice-grows, costs-grow, spends-grow, acts-grow, new-coins-grow, grown-births, messages-grow, sums-grow}
use Rattle.judge_spec.proofs.laws.lists_grow.Goals as goal

pub returns-clause-spent_twice : goal.returns-clause-spent_twice
returns-clause-spent_twice c = spent-twice-grows

pub returns-clause-costs : goal.returns-clause-costs
returns-clause-costs c = costs-grow

pub returns-clause-spends : goal.returns-clause-spends
returns-clause-spends c = spends-grow

pub returns-clause-acts : goal.returns-clause-acts
returns-clause-acts c = acts-grow

pub returns-clause-new_coins : goal.returns-clause-new_coins
returns-clause-new_coins c = new-coins-grow

pub returns-clause-births : goal.returns-clause-births
returns-clause-births c = grown-births

pub returns-clause-messages : goal.returns-clause-messages
returns-clause-messages c = messages-grow

pub returns-clause-sums : goal.returns-clause-sums
returns-clause-sums c = sums-grow
