use Rattle.std.proofs.Common.{◌≡◌, ◌+◌, ◌≤◌}
use Rattle.lisp_read.specs.Views.{form_of}
use Rattle.lisp_spec.specs.MacroBodies.{body_value}
use Rattle.lisp_macro.specs.Calls.{call_of}
use Rattle.lisp_macro.specs.Evaluations.{worked_off, next_value, frames_left, next_left}
use Rattle.lisp_macro.proofs.call.Call.evaluate_body.Given as goal

abbrev pub invariant-frames : goal.invariant-frames
invariant-frames l = (worked_off (call_of l.self) l.frames.items (next_value (call_of l.self) l.next l.turns) ≡ body_value (call_of l.self) (form_of l.body) l.fn.turns) × (l.turns ≤ l.fn.turns)

abbrev pub decreases-frames : goal.decreases-frames
decreases-frames l = frames_left l.frames.items + next_left l.next
