use Rattle.clvm_ops.proofs.Answered.{spent}
use Rattle.clvm_spec.specs.Tree.{Atom}
use Rattle.clvm_ops.proofs.application.Application.give_atom.Goals as goal

pub returns-in_err-charge : goal.returns-in_err-charge
returns-in_err-charge c = spent c.args.trees.now c.args.self.now _ c.in_err-charge.field-0.0 _ c.from_residual.ensures.1 (c.in_err-charge.ensures.err c.args.trees.now (Atom c.args.bytes.now))
