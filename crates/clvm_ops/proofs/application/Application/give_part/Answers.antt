use Rattle.std.proofs.Common.{ap, sym, ◌∙◌}
use Rattle.std.proofs.lemmas.Int.{to_z-of_z}
use Rattle.clvm_spec.specs.Operators.{part, part_or_fault}
use Rattle.clvm_spec.specs.Tree.{Atom}
use Rattle.clvm_ops.proofs.Answered.{spent, answers_same}
use Rattle.clvm_ops.proofs.application.Application.give_part.Goals as goal

pub returns-in_err-charge : goal.returns-in_err-charge
returns-in_err-charge c =
    let trees = c.args.trees.now in
    let within = simp (to_z-of_z, c.ranges.start, c.ranges.end) at c.in-Some.ensures in
    answers_same trees trees c.args.self.now _ _ _ (ap (part_or_fault c.args.self.now.cost) (ap (λ bytes. part bytes c.args.start c.args.end) (sym c.bytes_of-bytes.ensures) ∙ sym within))
    (spent trees c.args.self.now _ c.in_err-charge.field-0.0 _ c.from_residual.ensures.1 (c.in_err-charge.ensures.err trees (Atom c.in-Some.bytes.now)))
