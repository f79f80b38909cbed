-- The operands of an operator: the list of their values, and what the operator gives for it.
use Rattle.std.proofs.Common.{◌≡◌, ℕ, suc, Bool, true, false, List, [], ◌∷◌, length, Option, Some, None, option_map, refl, ap, sym, ◌∙◌, true≢false, arith}
use Rattle.std.proofs.lemmas.Bool.{cond-true, eqb-true}
use Rattle.lisp_spec.specs.Forms.{Form, Atom, Symbol, Pair, Place}
use Rattle.lisp_read.specs.FormLists.{form_elements, form_list}
use Rattle.lisp_spec.specs.MacroBodies.{BodyValue, BodyEvaluator, Gives, Stops, if_given, unless_astray, operand_values, operation_value, takes}
use Rattle.lisp_macro.specs.declared.operators.Operator.{Operator}
use Rattle.lisp_macro.specs.declared.operators.Operator.TheVariants as op
use Rattle.lisp_macro.specs.Operators.{row_of, suits, list_applied}
use Rattle.lisp_macro.specs.Evaluations.{put_on, operand_list}

if_given_both : (v : BodyValue) (f g : Form → ℕ → BodyValue) → if_given (if_given v f) g ≡ if_given v (λ form left. if_given (f form left) g)
if_given_both (Gives form left) f g = refl
if_given_both (Stops fault left) f g = refl

-- ---- operators

-- what an operator gives for the list of as many values as it takes
applied_is : (operator : Operator) (place : Place) (values : List Form) → takes (row_of operator).count (length values) ≡ true → list_applied operator place (form_list place values) ≡ (row_of operator).applied place values
applied_is op.First place [] h = absurd (omega (arith, eqb-true 0 1 h))
applied_is op.First place (Atom at bytes ∷ []) h = refl
applied_is op.First place (Symbol at name ∷ []) h = refl
applied_is op.First place (Pair at first rest ∷ []) h = refl
applied_is op.First place (v ∷ w ∷ values) h = absurd (omega (arith, eqb-true (suc (suc (length values))) 1 h))
applied_is op.Rest place [] h = absurd (omega (arith, eqb-true 0 1 h))
applied_is op.Rest place (Atom at bytes ∷ []) h = refl
applied_is op.Rest place (Symbol at name ∷ []) h = refl
applied_is op.Rest place (Pair at first rest ∷ []) h = refl
applied_is op.Rest place (v ∷ w ∷ values) h = absurd (omega (arith, eqb-true (suc (suc (length values))) 1 h))
applied_is op.IsPair place [] h = absurd (omega (arith, eqb-true 0 1 h))
applied_is op.IsPair place (v ∷ []) h = refl
applied_is op.IsPair place (v ∷ w ∷ values) h = absurd (omega (arith, eqb-true (suc (suc (length values))) 1 h))
applied_is op.Pair place [] h = absurd (omega (arith, eqb-true 0 2 h))
applied_is op.Pair place (v ∷ []) h = absurd (omega (arith, eqb-true (suc 0) 2 h))
applied_is op.Pair place (v ∷ w ∷ []) h = refl
applied_is op.Pair place (v ∷ w ∷ x ∷ values) h = absurd (omega (arith, eqb-true (suc (suc (suc (length values)))) 2 h))
applied_is op.Same place [] h = absurd (omega (arith, eqb-true 0 2 h))
applied_is op.Same place (v ∷ []) h = absurd (omega (arith, eqb-true (suc 0) 2 h))
applied_is op.Same place (v ∷ w ∷ []) h = refl
applied_is op.Same place (v ∷ w ∷ x ∷ values) h = absurd (omega (arith, eqb-true (suc (suc (suc (length values)))) 2 h))
applied_is op.Choice place [] h = absurd (omega (arith, eqb-true 0 3 h))
applied_is op.Choice place (v ∷ []) h = absurd (omega (arith, eqb-true (suc 0) 3 h))
applied_is op.Choice place (v ∷ w ∷ []) h = absurd (omega (arith, eqb-true (suc (suc 0)) 3 h))
applied_is op.Choice place (v ∷ w ∷ x ∷ []) h = refl
applied_is op.Choice place (v ∷ w ∷ x ∷ y ∷ values) h = absurd (omega (arith, eqb-true (suc (suc (suc (suc (length values))))) 3 h))
applied_is op.List place values h = refl

suits_takes : (count : Option ℕ) (operands : List Form) → suits count (Some operands) ≡ takes count (length operands)
suits_takes None operands = refl
suits_takes (Some count) operands = refl

suits_none : (count : Option ℕ) → suits count None ≡ false
suits_none None = refl
suits_none (Some count) = refl

-- ---- the list of the values

some_more : (first : Form) (o : Option (List Form)) (all : List Form) → option_map (λ more. first ∷ more) o ≡ Some all → (more : List Form) × (o ≡ Some more) × (all ≡ first ∷ more)
some_more first None all e = absurd cc
some_more first (Some more) all e = (more, refl, cc)

module _ (evaluate : BodyEvaluator) (place : Place) where
  -- All goes on with the list of the values as it does with the values.
  listed_values : (rest : Form) (operands : List Form) (left : ℕ) (go : Form → ℕ → BodyValue) → form_elements rest ≡ Some operands →
      if_given (operand_list evaluate place rest left) go ≡ operand_values evaluate operands left (λ values after. go (form_list place values) after)
  listed_values (Atom at []) operands left go e =
      let none : operands ≡ [] = cc in sym (ap (λ os. operand_values evaluate os left (λ values after. go (form_list place values) after)) none)
  listed_values (Atom at (b ∷ bytes)) operands left go e = absurd cc
  listed_values (Symbol at name) operands left go e = absurd cc
  listed_values (Pair at first rest) operands left go e =
      let parts = some_more first (form_elements rest) operands e in
      if_given_both (operand_list evaluate place rest left) (λ behind after. put_on place (evaluate first after) behind) go
      ∙ listed_values rest parts.0 left (λ behind after. if_given (put_on place (evaluate first after) behind) go) parts.1
      ∙ (λ i. operand_values evaluate parts.0 left (λ values after. if_given_both (evaluate first after) (λ front last. Gives (Pair place front (form_list place values)) last) go i))
      ∙ sym (ap (λ os. operand_values evaluate os left (λ values after. go (form_list place values) after)) parts.2)

  -- what goes on with as many values as there are operands
  values_same : (operands : List Form) (left : ℕ) (go go' : List Form → ℕ → BodyValue) → ((values : List Form) (after : ℕ) → length values ≡ length operands → go values after ≡ go' values after) →
      operand_values evaluate operands left go ≡ operand_values evaluate operands left go'
  values_same [] left go go' h = h [] left refl
  values_same (operand ∷ operands) left go go' h =
      values_same operands left (λ values after. if_given (evaluate operand after) (λ value last. go (value ∷ values) last)) (λ values after. if_given (evaluate operand after) (λ value last. go' (value ∷ values) last))
      (λ values after e i. if_given (evaluate operand after) (λ value last. h (value ∷ values) last (ap suc e) i))

  some_applied : (operator : Operator) (rest : Form) (left : ℕ) (o : Option (List Form)) → form_elements rest ≡ o → suits (row_of operator).count o ≡ true →
      if_given (operand_list evaluate place rest left) (λ list after. unless_astray (list_applied operator place list) after) ≡ operation_value evaluate place (row_of operator) o left
  some_applied operator rest left None e suit = absurd (true≢false (sym suit ∙ suits_none (row_of operator).count))
  some_applied operator rest left (Some operands) e suit =
      let count = (row_of operator).count in
      let fits : takes count (length operands) ≡ true = sym (suits_takes count operands) ∙ suit in
      listed_values rest operands left (λ list after. unless_astray (list_applied operator place list) after) e
      ∙ values_same operands left (λ values after. unless_astray (list_applied operator place (form_list place values)) after) (λ values after. unless_astray ((row_of operator).applied place values) after)
      (λ values after long. ap (λ found. unless_astray found after) (applied_is operator place values (ap (takes count) long ∙ fits)))
      ∙ sym (cond-true (takes count (length operands)) _ _ fits)

  -- The operator's value is what it gives for the list of its operands' values.
  pub operands_applied : (operator : Operator) (rest : Form) (left : ℕ) → suits (row_of operator).count (form_elements rest) ≡ true →
      if_given (operand_list evaluate place rest left) (λ list after. unless_astray (list_applied operator place list) after) ≡ operation_value evaluate place (row_of operator) (form_elements rest) left
  operands_applied operator rest left suit = some_applied operator rest left (form_elements rest) refl suit
