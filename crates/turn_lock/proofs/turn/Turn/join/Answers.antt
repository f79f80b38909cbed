use Rattle.std.proofs.Common.{rules, ap, ◌∙◌}
use Rattle.turn_lock.proofs.IdleSteps.{compares}
use Rattle.turn_lock.proofs.Passes.{joins}
use Rattle.turn_lock.proofs.turn.Turn.join.Goals as goal

pub join_seat-requires : goal.join_seat-requires
join_seat-requires g c = (search rules, search rules, search rules, search rules, joins g.S.Replays.opening g.S.Replays.history g.S.Replays.maker _ _ _ _ (ap (λ t. t.view.holding) c.pass.view_is ∙ c.requires.pass.1) (ap (λ t. t.view.holding) c.other.view_is ∙ c.requires.other.1))

pub load-requires : goal.load-requires
load-requires g c =
    let idle = ap (λ t. t.view.holding) c.pass.view_is ∙ c.requires.pass.1 in
    (search rules, search rules, compares g.S.Replays.opening g.S.Replays.history g.S.Replays.maker _ _ _ (ap (λ m. m.0.holding) c.join_seat.ensures.2 ∙ idle))
