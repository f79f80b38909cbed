use Rattle.clvm_spec.proofs.CurryingLaws.{gives_parts_back, gives_none_without_argument, was_curried}
use Rattle.clvm_spec.proofs.currying_laws.uncurrying_gives_the_parts_back.Goals as goal

pub returns-clause-parts : goal.returns-clause-parts
returns-clause-parts c = gives_parts_back

pub returns-clause-none : goal.returns-clause-none
returns-clause-none c = gives_none_without_argument

pub returns-clause-only : goal.returns-clause-only
returns-clause-only c = was_curried
