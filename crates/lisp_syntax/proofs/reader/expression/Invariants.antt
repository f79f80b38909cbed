use Rattle.std.proofs.Common.{◌≡◌}
use Rattle.lisp_read.specs.Views.{form_of}
use Rattle.lisp_spec.specs.Expressions.{expression_of}
use Rattle.lisp_syntax.specs.Scopes.{scope_of}
use Rattle.lisp_syntax.specs.Marks.{marked}
use Rattle.lisp_syntax.specs.Tasks.{all_written, tasks_left}
use Rattle.lisp_syntax.proofs.reader.expression.Given as goal

abbrev pub invariant-tasks : goal.invariant-tasks
invariant-tasks l = all_written (scope_of l.fn.scope) l.nodes.items l.tasks.items ≡ marked (expression_of (form_of l.fn.form) (scope_of l.fn.scope))

abbrev pub decreases-tasks : goal.decreases-tasks
decreases-tasks l = tasks_left l.tasks.items
