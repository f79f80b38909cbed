use Rattle.std.proofs.Common.{rules, Some, refl, ap, ◌∙◌}
use Rattle.turn_lock.proofs.IdleSteps.{takes_turn}
use Rattle.turn_lock.proofs.turn.Turn.try_take.Goals as goal

pub compare_exchange-requires : goal.compare_exchange-requires
compare_exchange-requires g c = (search rules, search rules, takes_turn g.S.Replays.opening g.S.Replays.history g.S.Replays.maker _ _ _ (ap (λ t. t.view.holding) c.pass.view_is ∙ c.requires.1))

pub exchange-requires : goal.exchange-requires
exchange-requires g c =
    let got = c.compare_exchange.ensures.2.0 c.if-compare_exchange-ne0.false in
    (search rules, (Some got.value, rw got.place refl))
