use Rattle.lisp_spec.proofs.CycleProofs.{finds_reached, found_is_reached}
use Rattle.lisp_spec.proofs.nesting_laws.reaching_is_by_calls.Goals as goal

pub returns-clause-finds : goal.returns-clause-finds
returns-clause-finds c = finds_reached

pub returns-clause-found : goal.returns-clause-found
returns-clause-found c = found_is_reached
