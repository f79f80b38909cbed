use Rattle.std.proofs.Common.{◌≡◌, ◌≤◌}
use Rattle.turn_lock.proofs.turn.Turn.take.Given as goal

abbrev pub invariant-loop : goal.invariant-loop
invariant-loop g l =
    (goal.iterator-loop g).can_next l.iterator' × (goal.iterator-loop g).is_finite l.iterator'
    × (l.pass.turn ≡ l.fn.pass.turn)
    × (l.pass.view ≡ record l.fn.pass.view { refusals = l.pass.view.refusals })
    × (l.fn.pass.view.refusals ≤ l.pass.view.refusals)
