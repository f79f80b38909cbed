use Rattle.std.proofs.Common.{refl, ap}
use Rattle.clvm_spec.specs.Outcomes.{Fails, WrongOperand}
use Rattle.clvm_spec.specs.ColumnLaws.{pair_fault}
use Rattle.clvm_ops.proofs.kinds.pair_fault.Goals as goal

pub returns-in-Bytes : goal.returns-in-Bytes
returns-in-Bytes c = (Fails (WrongOperand c.args.place), ap (pair_fault c.args.place) c.in-Bytes.ensures, refl, λ e. cc)
