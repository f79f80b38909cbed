use Rattle.clvm_spec.proofs.Columns.{costs_law}
use Rattle.clvm_spec.proofs.column_laws.costs_are_columns.Goals as goal

pub returns : goal.returns
returns c = costs_law
