use Rattle.judge_spec.proofs.FineLaws.{new-coins-last}
use Rattle.judge_spec.proofs.laws.new_coins_last.Goals as goal

pub returns : goal.returns
returns c = new-coins-last
