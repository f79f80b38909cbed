use Rattle.std.proofs.Common.{◌≡◌, ◌+◌}
use Rattle.lisp_read.specs.Copies.{plug, turn_form, left, turn_left}
use Rattle.lisp_read.proofs.copies.copy.Given as goal

abbrev pub invariant-turns : goal.invariant-turns
invariant-turns g l = plug g.S.Seen.seen g.T.Built.built l.levels.items (turn_form g.S.Seen.seen g.T.Built.built l.turn) ≡ g.S.Seen.seen l.form

abbrev pub decreases-turns : goal.decreases-turns
decreases-turns g l = left g.S.Seen.seen l.levels.items + turn_left g.S.Seen.seen l.turn
