use Rattle.std.proofs.Common.{rules, ap, ◌∙◌}
use Rattle.turn_lock.proofs.IdleSteps.{looks}
use Rattle.turn_lock.proofs.turn.Turn.look.Goals as goal

pub load-requires : goal.load-requires
load-requires g c = (search rules, search rules, looks g.S.Replays.opening g.S.Replays.history g.S.Replays.maker _ _ _ (ap (λ t. t.view.holding) c.pass.view_is ∙ c.requires.1))
