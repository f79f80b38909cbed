use Rattle.std.proofs.Common.{◌≡◌, ◌+◌, ◌*◌}
use Rattle.lisp_read.specs.Views.{form_of}
use Rattle.lisp_spec.specs.Expansion.{expansion}
use Rattle.lisp_macro.specs.Walks.{walked_off, next_expanded, levels_left, next_left, call_work}
use Rattle.lisp_macro.proofs.walk.expand_within.Given as goal

abbrev pub invariant-levels : goal.invariant-levels
invariant-levels l = walked_off l.macros l.levels.items (next_expanded l.macros l.next l.turns) ≡ expansion l.macros (form_of l.fn.form) l.fn.turns

abbrev pub decreases-levels : goal.decreases-levels
decreases-levels l = l.turns * call_work + (levels_left l.levels.items + next_left l.next)
