use Rattle.clvm_spec.proofs.Columns.{counts_law}
use Rattle.clvm_spec.proofs.column_laws.counts_are_columns.Goals as goal

pub returns : goal.returns
returns c = counts_law
