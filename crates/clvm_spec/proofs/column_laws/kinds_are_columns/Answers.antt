use Rattle.clvm_spec.proofs.Columns.{kinds_law, others_law, held_law}
use Rattle.clvm_spec.proofs.column_laws.kinds_are_columns.Goals as goal

pub returns-clause-first : goal.returns-clause-first
returns-clause-first c = kinds_law

pub returns-clause-none : goal.returns-clause-none
returns-clause-none c = others_law

pub returns-clause-held : goal.returns-clause-held
returns-clause-held c = held_law
