-- What each shape is written as is what its form is judged as.
use Rattle.std.proofs.Common.{◌≡◌, ℕ, zero, suc, ◌+◌, ◌<◌, ◌≤◌, Bool, true, false, List, [], ◌∷◌, ◌++◌, Option, Some, None, Ok, Err, is_some, refl, sym, ap, ◌∙◌, subst, arith, Bor}
use Rattle.lisp_read.specs.Copies.{size}
use Rattle.lisp_read.specs.Views.{form_of}
use Rattle.lisp_read.specs.declared.form.Form as declared
use Rattle.lisp_spec.specs.Forms.{Form, Atom, Symbol, Pair, Place}
use Rattle.lisp_read.specs.FormLists.{form_elements, single, is_symbol, IsOnly, IsNotOne, AreThree, IsNotThree}
use Rattle.std.specs.Prelude.{codes, Result}
use Rattle.lisp_spec.specs.declared.head.Head.{Head}
use Rattle.lisp_spec.specs.Heads.{head_of}
use Rattle.lisp_spec.specs.ModuleFaults.{BadForm, Unbound, Fault, fault, Judged, ◌>>=◌, ◌or◌, unless, expect}
use Rattle.lisp_spec.specs.Expressions as spec
use Rattle.lisp_spec.specs.Expressions.{Expression, Operands, Template, Scope, expression_of, operands_of, template_of}
use Rattle.lisp_syntax.specs.declared.node.Node.{Node}
use Rattle.lisp_syntax.specs.declared.node.Node.TheVariants as node
use Rattle.lisp_syntax.specs.declared.shape.Part.TheVariants as part
use Rattle.lisp_syntax.specs.declared.shape.Shape.{Shape}
use Rattle.lisp_syntax.specs.declared.shape.Shape.TheVariants.{Leaf, One, Two, Three}
use Rattle.lisp_syntax.specs.Marks.{Mark, written, written_operands, written_template, mark_of, marked, operands_marked, template_marked, unquoted_marked}
use Rattle.lisp_syntax.specs.Marks as mark
use Rattle.lisp_syntax.specs.declared.fault.FormFault.{FormFault}
use Rattle.lisp_syntax.specs.Faults.{IsFormFault}
use Rattle.lisp_syntax.specs.Shapes.{◌before◌, HasShape, IsShapeOf, Makes}
use Rattle.lisp_syntax.proofs.ListLaws.{template_only, expression_only, choice_three, single_is}

-- ---- what is made of parts, written out

filled_marked : (j : Judged Template) → (template_marked j before Ok (mark.Filled ∷ [])) ≡ marked (j >>= λ t. Ok (spec.Filled t))
filled_marked (Ok t) = refl
filled_marked (Err first) = refl

unquote_marked : (j : Judged Expression) → (marked j before Ok (mark.Unquoted ∷ [])) ≡ unquoted_marked j
unquote_marked (Ok e) = refl
unquote_marked (Err first) = refl

choice_marked : (i j k : Judged Expression) → (marked i before marked j before marked k before Ok (mark.Choice ∷ [])) ≡ marked (i >>= λ a. j >>= λ b. k >>= λ c. Ok (spec.Choice a b c))
choice_marked (Ok a) (Ok b) (Ok c) = refl
choice_marked (Ok a) (Ok b) (Err first) = refl
choice_marked (Ok a) (Err first) k = refl
choice_marked (Err first) j k = refl

made_marked : (n : Node) (make : Operands → Expression) → Makes n make → (j : Judged Operands) → (operands_marked j before Ok (mark_of n ∷ [])) ≡ marked (j >>= λ o. Ok (make o))
made_marked n make m (Ok operands) = ap Ok (sym (m operands))
made_marked n make m (Err first) = refl

operand_marked : (i : Judged Expression) (j : Judged Operands) → (marked i before operands_marked j before Ok (mark.Operand ∷ [])) ≡ operands_marked (i >>= λ e. j >>= λ more. Ok (spec.Operand e more))
operand_marked (Ok e) (Ok more) = refl
operand_marked (Ok e) (Err first) = refl
operand_marked (Err first) j = refl

both_marked : (i j : Judged Template) → (template_marked i before template_marked j before Ok (mark.Both ∷ [])) ≡ template_marked (i >>= λ a. j >>= λ b. Ok (spec.Both a b))
both_marked (Ok a) (Ok b) = refl
both_marked (Ok a) (Err first) = refl
both_marked (Err first) j = refl

-- ---- shapes

pub size_some : (form : Form) → 0 < size form
size_some (Atom at bytes) = omega arith
size_some (Symbol at name) = omega arith
size_some (Pair at first rest) = omega arith

pub leaf : (scope : Scope) (n : Node) (judged : Judged (List Mark)) (work : ℕ) → Ok (mark_of n ∷ []) ≡ judged → 0 < work → HasShape scope judged work (Leaf n)
leaf scope n judged work same less = record { same = same; less = less }

pub literal : (scope : Scope) (pair : Place) (list : Form) (only : Bor declared.Form) → IsOnly list (form_of only.now) → HasShape scope (marked (spec.quoted pair (single list))) (size list + 2) (Leaf (node.Literal only))
literal scope pair list only o = record { same = ap (λ operand. marked (spec.quoted pair operand)) (sym (single_is list (form_of only.now) o.elements)); less = omega arith }

pub filled_shape : (scope : Scope) (pair : Place) (list : Form) (only : Bor declared.Form) → IsOnly list (form_of only.now) →
    HasShape scope (marked (spec.only_template list pair scope)) (size list + 2) (One (part.Template only) node.Filled)
filled_shape scope pair list only o = record {
  same = filled_marked (template_of (form_of only.now) scope) ∙ ap marked (sym (template_only scope pair list (form_of only.now) o.elements));
  less = omega (arith, o.small);
}

pub unquoted_shape : (scope : Scope) (pair : Place) (list : Form) (only : Bor declared.Form) → IsOnly list (form_of only.now) →
    HasShape scope (unquoted_marked (spec.only_expression list pair scope)) (size list + 2) (One (part.Expression only) node.Unquoted)
unquoted_shape scope pair list only o = record {
  same = unquote_marked (expression_of (form_of only.now) scope) ∙ ap unquoted_marked (sym (expression_only scope pair list (form_of only.now) o.elements));
  less = omega (arith, o.small);
}

pub choice_shape : (scope : Scope) (pair : Place) (list : Form) (a b c : Bor declared.Form) → AreThree list (form_of a.now) (form_of b.now) (form_of c.now) →
    HasShape scope (marked (spec.choice_of list pair scope)) (size list + 2) (Three (part.Expression a) (part.Expression b) (part.Expression c) node.Choice)
choice_shape scope pair list a b c o = record {
  same = choice_marked (expression_of (form_of a.now) scope) (expression_of (form_of b.now) scope) (expression_of (form_of c.now) scope)
      ∙ ap marked (sym (choice_three scope pair list (form_of a.now) (form_of b.now) (form_of c.now) o.elements));
  less = omega (arith, o.small);
}

-- ---- an operator, a function, an inline, or `list`

module _ (pair : Place) (behind : Form) (make : Operands → Expression) (scope : Scope) where
  abbrev applied_if : Bool → Option Fault → Judged Expression
  applied_if proper head = unless (expect proper BadForm pair or head) scope >>= λ s. operands_of behind s >>= λ found. Ok (make found)

  pub improper : (head : Option Fault) → is_some (form_elements behind) ≡ false → spec.applied pair behind head (operands_of behind) make scope ≡ Err (fault BadForm pair)
  improper head e = ap (λ proper. applied_if proper head) e

  pub unbound_head : (head : Option Fault) (place : Place) → is_some (form_elements behind) ≡ true → head ≡ Some (fault Unbound place) → spec.applied pair behind head (operands_of behind) make scope ≡ Err (fault Unbound place)
  unbound_head head place e is = ap (λ proper. applied_if proper head) e ∙ ap (applied_if true) is

  pub applied_shape : (n : Node) (head : Option Fault) (form : Bor declared.Form) → form_of form.now ≡ behind → Makes n make → is_some (form_elements behind) ≡ true → head ≡ None →
      HasShape scope (marked (spec.applied pair behind head (operands_of behind) make scope)) (size behind + 2) (One (part.Operands form) n)
  applied_shape n head form f m e is = record {
    same = made_marked n make m (operands_of (form_of form.now) scope)
        ∙ ap (λ b. marked (operands_of b scope >>= λ o. Ok (make o))) f
        ∙ ap marked (sym (ap (λ proper. applied_if proper head) e ∙ ap (applied_if true) is));
    less = omega (arith, ap size f);
  }

-- ---- operands and templates

pub operand_shape : (scope : Scope) (at : Place) (first rest : Form) (a b : Bor declared.Form) → form_of a.now ≡ first → form_of b.now ≡ rest →
    HasShape scope (operands_marked (operands_of (Pair at first rest) scope)) (size (Pair at first rest)) (Two (part.Expression a) (part.Operands b) node.Operand)
operand_shape scope at first rest a b e f = record {
  same = operand_marked (expression_of (form_of a.now) scope) (operands_of (form_of b.now) scope)
      ∙ ap (λ x. operands_marked (expression_of x scope >>= λ e. operands_of (form_of b.now) scope >>= λ more. Ok (spec.Operand e more))) e
      ∙ ap (λ y. operands_marked (expression_of first scope >>= λ e. operands_of y scope >>= λ more. Ok (spec.Operand e more))) f;
  less = omega (arith, ap size e, ap size f);
}

abbrev pair_filled : Scope → Place → Form → Form → Bool → Judged Template
pair_filled scope at first rest unquotes = spec.filled unquotes at (spec.only_expression rest) (template_of first) (template_of rest) scope

pub both_shape : (scope : Scope) (at : Place) (first rest : Form) (a b : Bor declared.Form) → form_of a.now ≡ first → form_of b.now ≡ rest → is_symbol (codes "unquote") first ≡ false →
    HasShape scope (template_marked (template_of (Pair at first rest) scope)) (size (Pair at first rest)) (Two (part.Template a) (part.Template b) node.Both)
both_shape scope at first rest a b e f other = record {
  same = both_marked (template_of (form_of a.now) scope) (template_of (form_of b.now) scope)
      ∙ ap (λ x. template_marked (template_of x scope >>= λ s. template_of (form_of b.now) scope >>= λ t. Ok (spec.Both s t))) e
      ∙ ap (λ y. template_marked (template_of first scope >>= λ s. template_of y scope >>= λ t. Ok (spec.Both s t))) f
      ∙ ap (λ b. template_marked (pair_filled scope at first rest b)) (sym other);
  less = omega (arith, ap size e, ap size f);
}

-- ---- the same of what is the same

pub shape_as : (scope : Scope) (judged other : Judged (List Mark)) (work more : ℕ) (result : Result Shape FormFault) → judged ≡ other → work ≤ more → IsShapeOf scope judged work result → IsShapeOf scope other more result
shape_as scope judged other work more (Ok shape) e l s = record { same = s.same ∙ e; less = omega (arith, l, s.less) }
shape_as scope judged other work more (Err f) e l s = subst (λ j. IsFormFault j f) e s

pub unquote_as : (scope : Scope) (at : Place) (first rest found : Form) (result : Result Shape FormFault) → found ≡ rest → is_symbol (codes "unquote") first ≡ true →
    IsShapeOf scope (unquoted_marked (spec.only_expression found at scope)) (size found + 2) result → IsShapeOf scope (template_marked (template_of (Pair at first rest) scope)) (size (Pair at first rest)) result
unquote_as scope at first rest found result f one s =
    shape_as scope _ _ _ _ result
    (ap (λ r. unquoted_marked (spec.only_expression r at scope)) f ∙ ap (λ b. template_marked (pair_filled scope at first rest b)) (sym one))
    (omega (arith, ap size f)) s

abbrev by_head : Scope → Place → Place → List ℕ → Form → Head → Judged (List Mark)
by_head scope pair place name behind head = marked (spec.headed pair place name behind (operands_of behind) (spec.choice_of behind) (spec.only_template behind) scope head)

pub head_as : (scope : Scope) (pair place : Place) (name : List ℕ) (behind : Form) (head : Head) (result : Result Shape FormFault) → head ≡ head_of name →
    IsShapeOf scope (marked (spec.headed pair place name behind (operands_of behind) (spec.choice_of behind) (spec.only_template behind) scope head)) (size behind + 2) result →
    IsShapeOf scope (marked (expression_of (Pair pair (Symbol place name) behind) scope)) (size behind + 2) result
head_as scope pair place name behind head result e s = subst (λ h. IsShapeOf scope (by_head scope pair place name behind h) (size behind + 2) result) e s

pub expression_as : (scope : Scope) (form : Form) (pair place : Place) (name : List ℕ) (behind found : Form) (result : Result Shape FormFault) → form ≡ Pair pair (Symbol place name) behind → found ≡ behind →
    IsShapeOf scope (marked (expression_of (Pair pair (Symbol place name) found) scope)) (size found + 2) result → IsShapeOf scope (marked (expression_of form scope)) (size form) result
expression_as scope form pair place name behind found result e f s =
    shape_as scope _ _ _ _ result
    (ap (λ b. marked (expression_of (Pair pair (Symbol place name) b) scope)) f ∙ ap (λ b. marked (expression_of b scope)) (sym e))
    (omega (arith, ap size e, ap size f)) s
