-- What a macro's body gives with more turns.
use Rattle.std.proofs.Common.{◌≡◌, ℕ, zero, suc, ◌+◌, ◌≤◌, Bool, true, false, cond, List, [], ◌∷◌, length, Option, Some, None, codes, refl, sym, ap, subst, arith}
use Rattle.lisp_spec.specs.Forms.{Form, Atom, Symbol, Pair, Place}
use Rattle.lisp_read.specs.FormLists.{form_elements, is_symbol}
use Rattle.lisp_spec.specs.Parameters.{path_of}
use Rattle.lisp_spec.specs.Macros.{TurnsSpent, BadMacro, TooLarge}
use Rattle.lisp_spec.specs.MacroBodies.{MacroCall, chosen, FormOperator, BodyHead, Quotation, TemplateOf, Branches, Operation, NoHead, body_head, BodyValue, Gives, Stops, if_given, unless_astray, BodyEvaluator, operand_values, takes, operation_value, branch_value, one_value, template_value, headed_value, expression_value, with_turn, valued_within, body_value, parameter_or}

-- With so many more turns there is the same, with as many more left. Turns that are spent leave none, and say nothing
-- of more turns.
unfoldable pub Shifted : ℕ → BodyValue → BodyValue → Type 0
Shifted more (Gives form left) other = other ≡ Gives form (more + left)
Shifted more (Stops TurnsSpent left) other = left ≡ 0
Shifted more (Stops BadMacro left) other = other ≡ Stops BadMacro (more + left)
Shifted more (Stops TooLarge left) other = other ≡ Stops TooLarge (more + left)

-- the same of what goes on from a form
abbrev pub Shifts : ℕ → (Form → ℕ → BodyValue) → (Form → ℕ → BodyValue) → Type 0
Shifts more go other = (form : Form) (left : ℕ) → Shifted more (go form left) (other form (more + left))

if_given_shifted : (more : ℕ) (v w : BodyValue) (go go' : Form → ℕ → BodyValue) → Shifted more v w → Shifts more go go' → Shifted more (if_given v go) (if_given w go')
unfolding Shifted
if_given_shifted more (Gives form left) w go go' e h = subst (λ u. Shifted more (go form left) (if_given u go')) (sym e) (h form left)
if_given_shifted more (Stops TurnsSpent left) w go go' e h = e
if_given_shifted more (Stops BadMacro left) w go go' e h = ap (λ u. if_given u go') e
if_given_shifted more (Stops TooLarge left) w go go' e h = ap (λ u. if_given u go') e

astray_shifted : (more : ℕ) (found : Option Form) (left : ℕ) → Shifted more (unless_astray found left) (unless_astray found (more + left))
unfolding Shifted
astray_shifted more None left = refl
astray_shifted more (Some form) left = refl

cond_shifted : (more : ℕ) (b : Bool) (v w v' w' : BodyValue) → Shifted more v v' → Shifted more w w' → Shifted more (cond b v w) (cond b v' w')
cond_shifted more true v w v' w' h k = h
cond_shifted more false v w v' w' h k = k

module _ (more : ℕ) (evaluate evaluate' : BodyEvaluator) (shifts : Shifts more evaluate evaluate') where
  operands_shifted : (operands : List Form) (left : ℕ) (go go' : List Form → ℕ → BodyValue) → ((values : List Form) (left : ℕ) → Shifted more (go values left) (go' values (more + left))) →
      Shifted more (operand_values evaluate operands left go) (operand_values evaluate' operands (more + left) go')
  operands_shifted [] left go go' h = h [] left
  operands_shifted (operand ∷ operands) left go go' h =
      operands_shifted operands left _ _
      (λ values after. if_given_shifted more (evaluate operand after) (evaluate' operand (more + after)) (λ value last. go (value ∷ values) last) (λ value last. go' (value ∷ values) last) (shifts operand after) (λ value last. h (value ∷ values) last))

  one_shifted : (operands : Option (List Form)) (left : ℕ) → Shifted more (one_value evaluate operands left) (one_value evaluate' operands (more + left))
  unfolding Shifted
  one_shifted None left = refl
  one_shifted (Some []) left = refl
  one_shifted (Some (operand ∷ [])) left = shifts operand left
  one_shifted (Some (operand ∷ b ∷ rest)) left = refl

  branch_shifted : (operands : Option (List Form)) (left : ℕ) → Shifted more (branch_value evaluate operands left) (branch_value evaluate' operands (more + left))
  unfolding Shifted
  branch_shifted None left = refl
  branch_shifted (Some []) left = refl
  branch_shifted (Some (a ∷ [])) left = refl
  branch_shifted (Some (a ∷ b ∷ [])) left = refl
  branch_shifted (Some (a ∷ b ∷ c ∷ [])) left =
      if_given_shifted more (evaluate a left) (evaluate' a (more + left)) (λ value after. evaluate (chosen value b c) after) (λ value after. evaluate' (chosen value b c) after) (shifts a left) (λ value after. shifts (chosen value b c) after)
  branch_shifted (Some (a ∷ b ∷ c ∷ d ∷ rest)) left = refl

  template_shifted : Shifts more (template_value evaluate) (template_value evaluate')
  unfolding Shifted
  template_shifted (Atom at bytes) left = refl
  template_shifted (Symbol at name) left = refl
  template_shifted (Pair at first rest) left =
      cond_shifted more (is_symbol (codes "unquote") first) _ _ _ _ (one_shifted (form_elements rest) left)
      (if_given_shifted more (template_value evaluate rest left) (template_value evaluate' rest (more + left))
      (λ behind after. if_given (template_value evaluate first after) (λ front last. Gives (Pair at front behind) last))
      (λ behind after. if_given (template_value evaluate' first after) (λ front last. Gives (Pair at front behind) last))
      (template_shifted rest left)
      (λ behind after. if_given_shifted more (template_value evaluate first after) (template_value evaluate' first (more + after))
      (λ front last. Gives (Pair at front behind) last) (λ front last. Gives (Pair at front behind) last) (template_shifted first after) (λ front last. refl)))

  operation_shifted : (place : Place) (operator : FormOperator) (operands : Option (List Form)) (left : ℕ) →
      Shifted more (operation_value evaluate place operator operands left) (operation_value evaluate' place operator operands (more + left))
  unfolding Shifted
  operation_shifted place operator None left = refl
  operation_shifted place operator (Some operands) left =
      cond_shifted more (takes operator.count (length operands)) _ (Stops BadMacro left) _ (Stops BadMacro (more + left))
      (operands_shifted operands left (λ values after. unless_astray (operator.applied place values) after) (λ values after. unless_astray (operator.applied place values) after) (λ values after. astray_shifted more (operator.applied place values) after)) refl

module _ (more : ℕ) (evaluate evaluate' : BodyEvaluator) (shifts : Shifts more evaluate evaluate') where
  headed_shifted : (place : Place) (head : BodyHead) (rest : Form) (left : ℕ) → Shifted more (headed_value evaluate place head rest left) (headed_value evaluate' place head rest (more + left))
  unfolding Shifted
  headed_shifted place Quotation rest left = refl
  headed_shifted place TemplateOf rest left = one_shifted more (template_value evaluate) (template_value evaluate') (template_shifted more evaluate evaluate' shifts) (form_elements rest) left
  headed_shifted place Branches rest left = branch_shifted more evaluate evaluate' shifts (form_elements rest) left
  headed_shifted place (Operation operator) rest left = operation_shifted more evaluate evaluate' shifts place operator (form_elements rest) left
  headed_shifted place NoHead rest left = refl

  expression_shifted : (call : MacroCall) → Shifts more (expression_value evaluate call) (expression_value evaluate' call)
  unfolding Shifted
  expression_shifted call (Atom at bytes) left = refl
  expression_shifted call (Symbol at name) left = astray_shifted more (parameter_or (Symbol at name) (path_of name call.params) call.operands) left
  expression_shifted call (Pair at (Symbol head name) rest) left = headed_shifted call.place (body_head name) rest left
  expression_shifted call (Pair at (Atom place bytes) rest) left = refl
  expression_shifted call (Pair at (Pair place first behind) rest) left = refl

within_shifted : (more bound wider : ℕ) (call : MacroCall) → bound ≤ wider → Shifts more (valued_within bound call) (valued_within wider call)
unfolding Shifted
within_shifted more zero wider call h form left = refl
within_shifted more (suc bound) zero call h form left = absurd (omega (arith, h))
within_shifted more (suc bound) (suc wider) call h form zero = refl
within_shifted more (suc bound) (suc wider) call h form (suc left) =
    let moved : suc (more + left) ≡ more + suc left = omega arith in
    subst (λ turns. Shifted more (expression_value (valued_within bound call) call form left) (with_turn turns (expression_value (valued_within wider call) call form))) moved
    (expression_shifted more (valued_within bound call) (valued_within wider call) (within_shifted more bound wider call (omega (arith, h))) call form left)

pub body_shifted : (more : ℕ) (call : MacroCall) → Shifts more (body_value call) (body_value call)
unfolding body_value
body_shifted more call form left = within_shifted more left (more + left) call (omega arith) form left
