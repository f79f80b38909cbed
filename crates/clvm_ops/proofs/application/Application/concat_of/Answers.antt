use Rattle.std.proofs.Common.{◌∙◌, ap, arith}
use Rattle.clvm_spec.specs.Tree.{Atom}
use Rattle.clvm_ops.proofs.Answered.{faulty, spent, answers_same, given_new}
use Rattle.clvm_ops.proofs.AtomLaws.{concat_of_is}
use Rattle.clvm_ops.proofs.application.Application.concat_of.Goals as goal

pub returns-in_err-size : goal.returns-in_err-size
returns-in_err-size c = faulty c.args.trees.now c.args.self.now _ c.in_err-size.field-0.0 _ c.from_residual.ensures.1 (c.in_err-size.ensures.err _)

pub returns-in_err-charge : goal.returns-in_err-charge
returns-in_err-charge c =
    let trees = c.args.trees.now in
    answers_same trees trees c.args.self.now _ _ _ (concat_of_is c.args.self.now.cost trees c.args.self.now.operands.now c.in_ok-size.size c.in_ok-size.ensures.ok)
    (spent trees c.args.self.now _ c.in_err-charge.field-0.0 _ c.from_residual-in_err-charge.ensures.1 (c.in_err-charge.ensures.err trees _))

pub returns : goal.returns
returns c =
    let trees = c.args.trees.now in
    let adds = c.in_ok-atom.ensures.ok in
    given_new trees c.atom.new.self c.args.self.now.left _ _ _ _ _ c.in_ok-charge.charge c.in_ok-atom.field-0 c.answer.result (concat_of_is c.args.self.now.cost trees c.args.self.now.operands.now c.in_ok-size.size c.in_ok-size.ensures.ok)
    c.in_ok-charge.ensures.ok adds.grows (omega arith) adds.known (adds.stands ∙ ap Atom (c.deref.ensures.value ∙ c.in_ok-bytes.ensures)) c.answer.ensures
