-- Tasks are put on and taken off, and what is written of all stays the same.
use Rattle.std.proofs.Common.{◌≡◌, ℕ, zero, suc, ◌+◌, ◌<◌, List, [], ◌∷◌, ◌++◌, length, Ok, Err, refl, sym, ap, ◌∙◌, subst, arith, append_assoc, append-nil}
use Rattle.std.specs.Prelude.{Result}
use Rattle.std.specs.Result.{IsErrAnd}
use Rattle.lisp_spec.specs.ModuleFaults.{Fault, fault, Judged, ◌>>=◌}
use Rattle.lisp_spec.specs.ModuleFaults as kind
use Rattle.lisp_spec.specs.Expressions as spec
use Rattle.lisp_spec.specs.Expressions.{Scope}
use Rattle.lisp_syntax.specs.declared.node.Node.{Node}
use Rattle.lisp_syntax.specs.declared.node.Expression.{Expression}
use Rattle.lisp_syntax.specs.declared.fault.FormFault.{FormFault}
use Rattle.lisp_syntax.specs.declared.fault.FormFault.TheVariants.{BadForm, Unbound, OutOfMemory}
use Rattle.lisp_syntax.specs.declared.shape.Part.{Part}
use Rattle.lisp_syntax.specs.declared.shape.Shape.{Shape}
use Rattle.lisp_syntax.specs.declared.shape.Shape.TheVariants.{Leaf, One, Two, Three}
use Rattle.lisp_syntax.specs.declared.reader.Task.{Task}
use Rattle.lisp_syntax.specs.declared.reader.Task.TheVariants.{Reads, Puts}
use Rattle.lisp_syntax.specs.Marks.{Mark, written, marks_of, marked, expression_in}
use Rattle.lisp_syntax.specs.Faults.{IsFormFault}
use Rattle.lisp_syntax.specs.Shapes.{◌before◌, lone, part_written, shape_written, part_left, shape_left}
use Rattle.lisp_syntax.proofs.MarkLaws.{reads_back}
use Rattle.lisp_syntax.specs.Tasks.{task_written, tasks_written, all_written, task_left, tasks_left, meant, IsExpression, Answers}

before_assoc : (i j k : Judged (List Mark)) → ((i before j) before k) ≡ (i before j before k)
before_assoc (Ok a) (Ok b) (Ok c) = ap Ok (append_assoc a b c)
before_assoc (Ok a) (Ok b) (Err first) = refl
before_assoc (Ok a) (Err first) k = refl
before_assoc (Err first) j k = refl

before_nothing : (i : Judged (List Mark)) → (i before Ok []) ≡ i
before_nothing (Ok a) = ap Ok (append-nil a)
before_nothing (Err first) = refl

nothing_before : (i : Judged (List Mark)) → (Ok [] before i) ≡ i
nothing_before (Ok a) = refl
nothing_before (Err first) = refl

pub left_push : (tasks : List Task) (task : Task) → tasks_left (tasks ++ task ∷ []) ≡ tasks_left tasks + task_left task
left_push [] task = omega arith
left_push (t ∷ tasks) task = omega (arith, left_push tasks task)

module _ (scope : Scope) where
  pub tasks_push : (tasks : List Task) (task : Task) → tasks_written scope (tasks ++ task ∷ []) ≡ (task_written scope task before tasks_written scope tasks)
  tasks_push [] task = nothing_before (task_written scope task) ∙ sym (before_nothing (task_written scope task))
  tasks_push (t ∷ tasks) task = ap (λ j. j before task_written scope t) (tasks_push tasks task) ∙ before_assoc (task_written scope task) (tasks_written scope tasks) (task_written scope t)

  pushed : (tasks after : List Task) (task : Task) → after ≡ tasks ++ task ∷ [] → tasks_written scope after ≡ (task_written scope task before tasks_written scope tasks)
  pushed tasks after task e = ap (tasks_written scope) e ∙ tasks_push tasks task

  one_written : (tasks second after : List Task) (a : Part) (n : Node) → second ≡ tasks ++ Puts n ∷ [] → after ≡ second ++ Reads a ∷ [] →
      tasks_written scope after ≡ (shape_written scope (One a n) before tasks_written scope tasks)
  one_written tasks second after a n e f =
      pushed second after (Reads a) f ∙ ap (λ j. part_written scope a before j) (pushed tasks second (Puts n) e) ∙ sym (before_assoc (part_written scope a) (lone n) (tasks_written scope tasks))

  two_written : (tasks second third after : List Task) (a b : Part) (n : Node) → second ≡ tasks ++ Puts n ∷ [] → third ≡ second ++ Reads b ∷ [] → after ≡ third ++ Reads a ∷ [] →
      tasks_written scope after ≡ (shape_written scope (Two a b n) before tasks_written scope tasks)
  two_written tasks second third after a b n e f g =
      pushed third after (Reads a) g ∙ ap (λ j. part_written scope a before j) (one_written tasks second third b n e f)
      ∙ sym (before_assoc (part_written scope a) (shape_written scope (One b n)) (tasks_written scope tasks))

  three_written : (tasks second third fourth after : List Task) (a b c : Part) (n : Node) → second ≡ tasks ++ Puts n ∷ [] → third ≡ second ++ Reads c ∷ [] → fourth ≡ third ++ Reads b ∷ [] → after ≡ fourth ++ Reads a ∷ [] →
      tasks_written scope after ≡ (shape_written scope (Three a b c n) before tasks_written scope tasks)
  three_written tasks second third fourth after a b c n e f g h =
      pushed fourth after (Reads a) h ∙ ap (λ j. part_written scope a before j) (two_written tasks second third fourth b c n e f g)
      ∙ sym (before_assoc (part_written scope a) (shape_written scope (Two b c n)) (tasks_written scope tasks))

  pub one_put : (nodes : List Node) (tasks second after : List Task) (a : Part) (n : Node) → second ≡ tasks ++ Puts n ∷ [] → after ≡ second ++ Reads a ∷ [] →
      all_written scope nodes after ≡ (Ok (marks_of nodes) before shape_written scope (One a n) before tasks_written scope tasks)
  one_put nodes tasks second after a n e f = ap (λ j. Ok (marks_of nodes) before j) (one_written tasks second after a n e f)

  pub two_put : (nodes : List Node) (tasks second third after : List Task) (a b : Part) (n : Node) → second ≡ tasks ++ Puts n ∷ [] → third ≡ second ++ Reads b ∷ [] → after ≡ third ++ Reads a ∷ [] →
      all_written scope nodes after ≡ (Ok (marks_of nodes) before shape_written scope (Two a b n) before tasks_written scope tasks)
  two_put nodes tasks second third after a b n e f g = ap (λ j. Ok (marks_of nodes) before j) (two_written tasks second third after a b n e f g)

  pub three_put : (nodes : List Node) (tasks second third fourth after : List Task) (a b c : Part) (n : Node) → second ≡ tasks ++ Puts n ∷ [] → third ≡ second ++ Reads c ∷ [] → fourth ≡ third ++ Reads b ∷ [] → after ≡ fourth ++ Reads a ∷ [] →
      all_written scope nodes after ≡ (Ok (marks_of nodes) before shape_written scope (Three a b c n) before tasks_written scope tasks)
  three_put nodes tasks second third fourth after a b c n e f g h = ap (λ j. Ok (marks_of nodes) before j) (three_written tasks second third fourth after a b c n e f g h)

  -- ---- the loop

  pub starts : (tasks : List Task) (nodes : List Node) (a : Part) → tasks ≡ Reads a ∷ [] → nodes ≡ [] → all_written scope nodes tasks ≡ part_written scope a
  starts tasks nodes a t n =
      ap (λ ns. all_written scope ns tasks) n ∙ nothing_before (tasks_written scope tasks) ∙ ap (tasks_written scope) t ∙ nothing_before (part_written scope a)

  pub goes_on : (nodes after : List Node) (tasks more next : List Task) (task : Task) (shape : Shape) (whole : Judged (List Mark)) → tasks ≡ more ++ task ∷ [] → shape_written scope shape ≡ task_written scope task →
      all_written scope after next ≡ (Ok (marks_of nodes) before shape_written scope shape before tasks_written scope more) → all_written scope nodes tasks ≡ whole → all_written scope after next ≡ whole
  goes_on nodes after tasks more next task shape whole t s e w =
      e ∙ ap (λ j. Ok (marks_of nodes) before j before tasks_written scope more) s ∙ ap (λ j. Ok (marks_of nodes) before j) (sym (pushed more tasks task t)) ∙ w

  marked_fault : (j : Judged spec.Expression) (first : Fault) → Err first ≡ marked j → j ≡ Err first
  marked_fault (Ok e) first is = absurd cc
  marked_fault (Err other) first is = cc

  broken : (nodes : List Node) (tasks more : List Task) (a : Part) (first : Fault) (j : Judged spec.Expression) → tasks ≡ more ++ Reads a ∷ [] → part_written scope a ≡ Err first → all_written scope nodes tasks ≡ marked j → j ≡ Err first
  broken nodes tasks more a first j t e w =
      marked_fault j first (ap (λ i. Ok (marks_of nodes) before i before tasks_written scope more) (sym e) ∙ ap (λ i. Ok (marks_of nodes) before i) (sym (pushed more tasks (Reads a) t)) ∙ w)

  pub fault_is : (nodes : List Node) (tasks more : List Task) (a : Part) (f : FormFault) (j : Judged spec.Expression) → tasks ≡ more ++ Reads a ∷ [] → IsFormFault (part_written scope a) f → all_written scope nodes tasks ≡ marked j → IsFormFault j f
  fault_is nodes tasks more a (BadForm place) j t e w = broken nodes tasks more a (fault kind.BadForm place) j t e w
  fault_is nodes tasks more a (Unbound place) j t e w = broken nodes tasks more a (fault kind.Unbound place) j t e w
  fault_is nodes tasks more a OutOfMemory j t e w = tt

  is_expression : (e : Expression) (j : Judged spec.Expression) → Ok (marks_of e.nodes.items) ≡ marked j → IsExpression j e
  is_expression e (Ok f) w =
      let same : marks_of e.nodes.items ≡ written f = cc in
      let meant_is : f ≡ meant e = sym (reads_back f) ∙ ap expression_in (sym same) in
      record { found = ap Ok meant_is; nodes_are = same ∙ ap written meant_is }
  is_expression e (Err first) w = absurd cc

  none_left : (tasks : List Task) → length tasks ≡ 0 → tasks ≡ []
  none_left [] n = refl
  none_left (t ∷ tasks) n = absurd (omega (arith, n))

  pub ends : (e : Expression) (tasks : List Task) (j : Judged spec.Expression) → length tasks ≡ 0 → all_written scope e.nodes.items tasks ≡ marked j → IsExpression j e
  ends e tasks j t w = is_expression e j (sym (before_nothing (Ok (marks_of e.nodes.items))) ∙ ap (all_written scope e.nodes.items) (sym (none_left tasks t)) ∙ w)

pub step_less : (tasks more next : List Task) (task : Task) (shape : Shape) → tasks ≡ more ++ task ∷ [] → tasks_left next ≡ tasks_left more + shape_left shape → shape_left shape < task_left task → tasks_left next < tasks_left tasks
step_less tasks more next task shape t n l = omega (arith, l, n, ap tasks_left t, left_push more task)

pub answers_fault : (judged : Judged spec.Expression) (f : FormFault) (result : Result Expression FormFault) → IsErrAnd result (λ e. e ≡ f) → IsFormFault judged f → Answers judged result
answers_fault judged f (Ok e) h is = absurd h
answers_fault judged f (Err e) h is = subst (IsFormFault judged) (sym h) is
