use Rattle.judge_spec.proofs.ConnectLaws.{fine-connects, fine-stays-sound}
use Rattle.judge_spec.proofs.laws.fine_connects.Goals as goal

pub returns-clause-block : goal.returns-clause-block
returns-clause-block c = fine-connects

pub returns-clause-chain : goal.returns-clause-chain
returns-clause-chain c = fine-stays-sound
