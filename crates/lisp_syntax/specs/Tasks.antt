-- How far a form is read: what the contracts of the reader's loop say. This project's own.
use Rattle.std.specs.Prelude.{◌≡◌, ℕ, ◌+◌, ◌<◌, List, [], ◌∷◌, Result, Ok, Err}
use Rattle.lisp_spec.specs.ModuleFaults.{Judged}
use Rattle.lisp_spec.specs.Expressions.{Scope}
use Rattle.lisp_spec.specs.Expressions as spec
use Rattle.lisp_syntax.specs.declared.node.Node.{Node}
use Rattle.lisp_syntax.specs.declared.fault.FormFault.{FormFault}
use Rattle.lisp_syntax.specs.declared.shape.Shape.{Shape}
use Rattle.lisp_syntax.specs.declared.reader.Task.{Task}
use Rattle.lisp_syntax.specs.declared.reader.Task.TheVariants.{Reads, Puts}
use Rattle.lisp_syntax.specs.declared.node.Expression.{Expression}
use Rattle.lisp_syntax.specs.Marks.{Mark, written, marks_of, expression_in}
use Rattle.lisp_syntax.specs.Faults.{IsFormFault}
use Rattle.lisp_syntax.specs.Shapes.{◌before◌, lone, part_written, shape_written, part_left, shape_left}

module _ (scope : Scope) where
  abbrev pub task_written : Task → Judged (List Mark)
  task_written (Reads part) = part_written scope part
  task_written (Puts node) = lone node

  -- The last task is the next.
  abbrev pub tasks_written : List Task → Judged (List Mark)
  tasks_written [] = Ok []
  tasks_written (task ∷ later) = tasks_written later before task_written task

  -- what is put already, and what is still to do
  abbrev pub all_written : List Node → List Task → Judged (List Mark)
  all_written nodes tasks = Ok (marks_of nodes) before tasks_written tasks

-- ---- what is left to do

abbrev pub task_left : Task → ℕ
task_left (Reads part) = part_left part
task_left (Puts node) = 1

abbrev pub tasks_left : List Task → ℕ
tasks_left [] = 0
tasks_left (task ∷ later) = task_left task + tasks_left later

-- ---- an expression of the program

-- the expression that it is
abbrev pub meant : Expression → spec.Expression
meant e = expression_in (marks_of e.nodes.items)

-- It is what is judged, and its nodes are that, written out.
pub record IsExpression (judged : Judged spec.Expression) (e : Expression) : Type 0 where
  pub found : judged ≡ Ok (meant e)
  pub nodes_are : marks_of e.nodes.items ≡ written (meant e)

abbrev pub Answers : Judged spec.Expression → Result Expression FormFault → Type 0
Answers judged (Ok e) = IsExpression judged e
Answers judged (Err f) = IsFormFault judged f
