use Rattle.std.proofs.Common.{ap, sym, ◌∙◌}
use Rattle.clvm_spec.specs.Operators.{free, flag}
use Rattle.clvm_ops.proofs.Answered.{answers_same}
use Rattle.clvm_ops.proofs.application.Application.give_flag.Goals as goal

pub returns-then-holds : goal.returns-then-holds
returns-then-holds c =
    answers_same c.args.trees.now c.args.trees.now c.args.self.now _ _ _ (ap (λ t. free t c.args.cost) (ap flag c.if-holds.true ∙ sym c.one.ensures.stands)) c.give.ensures

pub returns-else-holds : goal.returns-else-holds
returns-else-holds c =
    answers_same c.args.trees.now c.args.trees.now c.args.self.now _ _ _ (ap (λ t. free t c.args.cost) (ap flag c.if-holds.false ∙ sym c.nil.ensures.stands)) c.give-else-holds.ensures
