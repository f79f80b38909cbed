use Rattle.std.proofs.Common.{◌<◌, rules, sym, ap, ◌∙◌, subst}
use Rattle.turn_lock.proofs.HeldSteps.{gives_back, publishes, releases, in_hand-entered, in_hand-same}
use Rattle.turn_lock.proofs.turn.Turn.give.Goals as goal

pub swap-before-requires : goal.swap-before-requires
swap-before-requires g c =
    let r = g.S.Replays in
    let back = gives_back r.opening r.history r.maker _ _ _ _ _ c.pass.invariant c.pass.view_is c.exchange.ensures.3 c.requires.turn.1 c.requires.history c.requires.opening in
    (search rules, search rules, publishes r.opening r.history r.maker _ _ _ _ _ _ back.put back.holding back.follows c.length-count.ensures)

pub store-requires : goal.store-requires
store-requires g c =
    let r = g.S.Replays in
    let back = gives_back r.opening r.history r.maker _ _ _ _ _ c.pass.invariant c.pass.view_is c.exchange.ensures.3 c.requires.turn.1 c.requires.history c.requires.opening in
    (search rules, search rules, releases r.opening r.history r.maker _ _ _ _ _ _ _ _ back c.swap-before.ensures.2)

pub invariant_of-pass : goal.invariant_of-pass
invariant_of-pass g c =
    let r = g.S.Replays in
    let back = gives_back r.opening r.history r.maker _ _ _ _ _ c.pass.invariant c.pass.view_is c.exchange.ensures.3 c.requires.turn.1 c.requires.history c.requires.opening in
    in_hand-entered r.opening r.history r.maker _ _ _ _ _ _ back c.swap-before.ensures.2 _ c.store.ensures.2 (subst (λ n. c.swap-before.result < n) c.length-count.ensures c.if-before-count.true) (sym c.last_enters-enters.ensures ∙ c.if-enters.true)

pub invariant_of-pass-else-enters : goal.invariant_of-pass-else-enters
invariant_of-pass-else-enters g c =
    let r = g.S.Replays in
    let back = gives_back r.opening r.history r.maker _ _ _ _ _ c.pass.invariant c.pass.view_is c.exchange.ensures.3 c.requires.turn.1 c.requires.history c.requires.opening in
    in_hand-same r.opening r.history r.maker _ _ _ _ _ _ back c.swap-before.ensures.2 _ _ c.store.ensures.2 (c.pass.invariant.name_is ∙ ap (λ t. t.view.name) c.pass.view_is) (λ _. sym c.last_enters-enters.ensures ∙ c.if-enters.false)
