use Rattle.std.proofs.Common.{refl, ap}
use Rattle.clvm_spec.specs.Outcomes.{Fails, WrongOperand}
use Rattle.clvm_spec.specs.ColumnLaws.{atom_fault}
use Rattle.clvm_ops.proofs.kinds.atom_fault.Goals as goal

pub returns-in-Parts : goal.returns-in-Parts
returns-in-Parts c = (Fails (WrongOperand c.args.place), ap (atom_fault c.args.place) c.in-Parts.ensures.pair, refl, λ e. cc)
