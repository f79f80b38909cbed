use Rattle.clvm_tree.proofs.OperatorLaws.{answers_law}
use Rattle.clvm_tree.proofs.operators.answers_are_within.Goals as goal

pub returns : goal.returns
returns c = answers_law
