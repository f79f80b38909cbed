use Rattle.std.proofs.Common.{◌≡◌, Some}
use Rattle.turn_lock.specs.Hands.{IsIdle}
use Rattle.turn_lock.proofs.tests.write.Given as goal

abbrev pub invariant-loop : goal.invariant-loop
invariant-loop g l = IsIdle l.turn l.pass × (l.pass.view.name ≡ Some l.name)
