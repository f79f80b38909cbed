use Rattle.lisp_spec.proofs.ModuleProofs.{names_are_bound}
use Rattle.lisp_spec.proofs.WalkProofs.{parameters_are_distinct, definitions_are_named}
use Rattle.lisp_spec.proofs.module_laws.names_are_bound.Goals as goal

pub returns-clause-bound : goal.returns-clause-bound
returns-clause-bound c = names_are_bound

pub returns-clause-distinct : goal.returns-clause-distinct
returns-clause-distinct c = parameters_are_distinct

pub returns-clause-named : goal.returns-clause-named
returns-clause-named c = definitions_are_named
