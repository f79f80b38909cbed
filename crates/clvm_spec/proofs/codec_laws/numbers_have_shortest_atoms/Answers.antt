use Rattle.clvm_spec.proofs.ShortestLaws.{number-shortest, shortest_is_itself, shortest_is_least}
use Rattle.clvm_spec.proofs.codec_laws.numbers_have_shortest_atoms.Goals as goal

pub returns-clause-number : goal.returns-clause-number
returns-clause-number c = number-shortest

pub returns-clause-itself : goal.returns-clause-itself
returns-clause-itself c = shortest_is_itself

pub returns-clause-least : goal.returns-clause-least
returns-clause-least c = shortest_is_least
