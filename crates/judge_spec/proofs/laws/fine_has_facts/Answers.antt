use Rattle.judge_spec.proofs.FineCoins.{fine-has-facts, fine-has-its-puzzles}
use Rattle.judge_spec.proofs.laws.fine_has_facts.Goals as goal

pub returns-clause-facts : goal.returns-clause-facts
returns-clause-facts c = fine-has-facts

pub returns-clause-puzzles : goal.returns-clause-puzzles
returns-clause-puzzles c = fine-has-its-puzzles
