use Rattle.std.proofs.Common.{◌≤◌}
use Rattle.lisp_read.specs.Turns.{turns_to_drop}
use Rattle.lisp_read.specs.Views.{form_of}
use Rattle.lisp_read.proofs.+drop.Given as goal

abbrev pub invariant-form::Form::drop-loop-self : goal.invariant-form::Form::drop-loop-self
invariant-form::Form::drop-loop-self l = turns_to_drop (form_of l.self) ≤ turns_to_drop (form_of l.initial.self)

abbrev pub decreases-form::Form::drop-loop-self : goal.decreases-form::Form::drop-loop-self
decreases-form::Form::drop-loop-self l = turns_to_drop (form_of l.self)
