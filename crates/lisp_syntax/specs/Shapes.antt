-- What a form is made of, and as what each part is read: what the contracts of the reader's steps say. This project's own.
use Rattle.std.specs.Prelude.{◌≡◌, ℕ, ◌+◌, ◌<◌, List, [], ◌∷◌, ◌++◌, Result, Ok, MatchResult}
use Rattle.lisp_read.specs.Views.{form_of}
use Rattle.lisp_read.specs.Copies.{size}
use Rattle.lisp_spec.specs.ModuleFaults.{Judged, ◌>>=◌}
use Rattle.lisp_spec.specs.Expressions.{Scope, Expression, Operands, expression_of, operands_of, template_of}
use Rattle.lisp_syntax.specs.declared.node.Node.{Node}
use Rattle.lisp_syntax.specs.declared.fault.FormFault.{FormFault}
use Rattle.lisp_syntax.specs.declared.shape.Part.{Part}
use Rattle.lisp_syntax.specs.declared.shape.Part.TheVariants as part
use Rattle.lisp_syntax.specs.declared.shape.Shape.{Shape}
use Rattle.lisp_syntax.specs.declared.shape.Shape.TheVariants.{Leaf, One, Two, Three}
use Rattle.lisp_syntax.specs.Marks.{Mark, written, written_operands, mark_of, marked, operands_marked, template_marked}
use Rattle.lisp_syntax.specs.Faults.{IsFormFault}

-- what is written before more
infixr 20 ◌before◌
abbrev pub ◌before◌ : Judged (List Mark) → Judged (List Mark) → Judged (List Mark)
first before more = first >>= λ a. more >>= λ b. Ok (a ++ b)

abbrev pub lone : Node → Judged (List Mark)
lone node = Ok (mark_of node ∷ [])

module _ (scope : Scope) where
  abbrev pub part_written : Part → Judged (List Mark)
  part_written (part.Expression form) = marked (expression_of (form_of form.now) scope)
  part_written (part.Operands form) = operands_marked (operands_of (form_of form.now) scope)
  part_written (part.Template form) = template_marked (template_of (form_of form.now) scope)

  abbrev pub shape_written : Shape → Judged (List Mark)
  shape_written (Leaf node) = lone node
  shape_written (One a node) = part_written a before lone node
  shape_written (Two a b node) = part_written a before part_written b before lone node
  shape_written (Three a b c node) = part_written a before part_written b before part_written c before lone node

-- ---- what is left to do

abbrev pub part_left : Part → ℕ
part_left (part.Expression form) = size (form_of form.now)
part_left (part.Operands form) = size (form_of form.now)
part_left (part.Template form) = size (form_of form.now)

abbrev pub shape_left : Shape → ℕ
shape_left (Leaf node) = 0
shape_left (One a node) = part_left a + 1
shape_left (Two a b node) = part_left a + part_left b + 1
shape_left (Three a b c node) = part_left a + part_left b + part_left c + 1

-- ---- the shape of what is judged

pub record HasShape (scope : Scope) (judged : Judged (List Mark)) (work : ℕ) (shape : Shape) : Type 0 where
  pub same : shape_written scope shape ≡ judged
  pub less : shape_left shape < work

-- The shape, with less to do than so much, or the fault.
abbrev pub IsShapeOf : Scope → Judged (List Mark) → ℕ → Result Shape FormFault → Type 0
IsShapeOf scope judged work result = MatchResult result (HasShape scope judged work) (IsFormFault judged)

-- What is made of operands is written as them and the node.
abbrev pub Makes : Node → (Operands → Expression) → Type 0
Makes node make = (operands : Operands) → written (make operands) ≡ written_operands operands ++ mark_of node ∷ []
