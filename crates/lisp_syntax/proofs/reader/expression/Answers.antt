use Rattle.std.proofs.Common.{◌≡◌, length, sym, ap, ◌∙◌, ◌++◌, ◌∷◌, [], arith}
use Rattle.lisp_read.specs.Views.{form_of}
use Rattle.lisp_spec.specs.Expressions.{expression_of}
use Rattle.lisp_syntax.specs.Scopes.{scope_of}
use Rattle.lisp_syntax.specs.Marks.{marked}
use Rattle.lisp_syntax.specs.Shapes.{shape_written, shape_left}
use Rattle.lisp_syntax.specs.Tasks.{task_written, task_left}
use Rattle.lisp_syntax.proofs.TaskLaws.{step_less, goes_on, ends, fault_is, answers_fault}
use Rattle.lisp_syntax.proofs.reader.expression.Goals as goal
use Rattle.lisp_syntax.proofs.reader.expression.Goals.{in-Reads+in_ok-shape-in-Reads, in-Puts}

pub returns-in_err-shape-in-Reads : goal.returns-in_err-shape-in-Reads
returns-in_err-shape-in-Reads c =
    let scope = scope_of c.args.scope.now in
    let judged = expression_of (form_of c.args.form.now) scope in
    answers_fault judged c.in_err-shape-in-Reads.field-0.0 c.from_residual-in_err-shape-in-Reads.result c.from_residual-in_err-shape-in-Reads.ensures.1
    (fault_is scope c.tasks.nodes.items c.tasks.tasks.items c.pop.new.self.items c.in-Reads.part c.in_err-shape-in-Reads.field-0.0 judged
    (c.in-Some.ensures.items ∙ ap (λ t. c.pop.new.self.items ++ t ∷ []) c.in-Reads.is) c.in_err-shape-in-Reads.ensures c.tasks.invariant)

pub tasks-smaller : goal.tasks-smaller
tasks-smaller c =
    elim c.match-task.branch [
      | in-Reads+in_ok-shape-in-Reads w ↦
          step_less c.tasks.tasks.items c.pop.new.self.items c.take_up.new.tasks.items c.in-Some.task c.match-task.shape c.in-Some.ensures.items c.in_ok-take_up.ensures.less
          (omega (arith, w.in_ok-shape-in-Reads.ensures.less, ap shape_left w.shape-is, ap task_left w.in-Reads.is))
      | in-Puts w ↦
          step_less c.tasks.tasks.items c.pop.new.self.items c.take_up.new.tasks.items c.in-Some.task c.match-task.shape c.in-Some.ensures.items c.in_ok-take_up.ensures.less
          (omega (arith, ap shape_left w.shape-is, ap task_left w.in-Puts.is))
    ]

pub tasks-preserved : goal.tasks-preserved
tasks-preserved c =
    let scope = scope_of c.args.scope.now in
    let whole = marked (expression_of (form_of c.args.form.now) scope) in
    elim c.match-task.branch [
      | in-Reads+in_ok-shape-in-Reads w ↦
          goes_on scope c.tasks.nodes.items c.take_up.new.nodes.items c.tasks.tasks.items c.pop.new.self.items c.take_up.new.tasks.items c.in-Some.task c.match-task.shape whole c.in-Some.ensures.items
          (ap (shape_written scope) w.shape-is ∙ w.in_ok-shape-in-Reads.ensures.same ∙ ap (task_written scope) (sym w.in-Reads.is)) (c.in_ok-take_up.ensures.same scope) c.tasks.invariant
      | in-Puts w ↦
          goes_on scope c.tasks.nodes.items c.take_up.new.nodes.items c.tasks.tasks.items c.pop.new.self.items c.take_up.new.tasks.items c.in-Some.task c.match-task.shape whole c.in-Some.ensures.items
          (ap (shape_written scope) w.shape-is ∙ ap (task_written scope) (sym w.in-Puts.is)) (c.in_ok-take_up.ensures.same scope) c.tasks.invariant
    ]

pub returns : goal.returns
returns c =
    let none : length c.tasks.tasks.items ≡ 0 = omega (arith, c.in_default.ensures.cases.0, c.tasks.tasks.ok.0) in
    let scope = scope_of c.args.scope.now in
    ends scope (record { nodes = c.tasks.nodes }) c.tasks.tasks.items (expression_of (form_of c.args.form.now) scope) none c.tasks.invariant
