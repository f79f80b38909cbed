use Rattle.lisp_spec.proofs.Settled.{settled_law, without_macros_law}
use Rattle.lisp_spec.proofs.expansion_laws.what_is_expanded_is_settled.Goals as goal

pub returns-clause-expanded : goal.returns-clause-expanded
returns-clause-expanded c = settled_law

pub returns-clause-without : goal.returns-clause-without
returns-clause-without c = without_macros_law
