-- The laws on the turns of a macro's body.
use Rattle.std.proofs.Common.{◌≡◌, ℕ, zero, suc, ◌≤◌, Bool, true, false, cond, List, [], ◌∷◌, length, Option, Some, None, codes, refl, ap, ◌∙◌, arith}
use Rattle.lisp_spec.specs.Forms.{Form, Atom, Symbol, Pair, Place}
use Rattle.lisp_read.specs.FormLists.{form_elements, is_symbol}
use Rattle.lisp_spec.specs.Parameters.{path_of}
use Rattle.lisp_spec.specs.MacroBodies.{MacroCall, chosen, FormOperator, BodyHead, Quotation, TemplateOf, Branches, Operation, NoHead, body_head, BodyValue, Gives, Stops, if_given, unless_astray, BodyEvaluator, operand_values, takes, operation_value, branch_value, one_value, template_value, headed_value, expression_value, valued_within, body_value, parameter_or}
use Rattle.lisp_spec.specs.ExpansionLaws.{BodyBoundIsEnough, BodyIsItsStep}

-- ---- what is left

-- No more is left than these turns.
unfoldable pub AtMost : ℕ → BodyValue → Type 0
AtMost n (Gives form left) = left ≤ n
AtMost n (Stops fault left) = left ≤ n

at_most_more : (m n : ℕ) (v : BodyValue) → m ≤ n → AtMost m v → AtMost n v
unfolding AtMost
at_most_more m n (Gives form left) h k = omega (arith, h, k)
at_most_more m n (Stops fault left) h k = omega (arith, h, k)

if_given_at_most : (n : ℕ) (v : BodyValue) (go : Form → ℕ → BodyValue) → AtMost n v → ((form : Form) (left : ℕ) → left ≤ n → AtMost n (go form left)) → AtMost n (if_given v go)
unfolding AtMost
if_given_at_most n (Gives form left) go h k = k form left h
if_given_at_most n (Stops fault left) go h k = h

astray_at_most : (n : ℕ) (found : Option Form) (left : ℕ) → left ≤ n → AtMost n (unless_astray found left)
unfolding AtMost
astray_at_most n None left h = h
astray_at_most n (Some form) left h = h

cond_at_most : (n : ℕ) (b : Bool) (v w : BodyValue) → AtMost n v → AtMost n w → AtMost n (cond b v w)
cond_at_most n true v w h k = h
cond_at_most n false v w h k = k

-- what leaves no more than there is
abbrev pub Falls : (Form → ℕ → BodyValue) → Type 0
Falls evaluate = (form : Form) (n left : ℕ) → left ≤ n → AtMost n (evaluate form left)

module _ (evaluate : BodyEvaluator) (falls : Falls evaluate) where
  operands_fall : (operands : List Form) (n left : ℕ) (go : List Form → ℕ → BodyValue) → ((values : List Form) (left : ℕ) → left ≤ n → AtMost n (go values left)) → left ≤ n → AtMost n (operand_values evaluate operands left go)
  operands_fall [] n left go k h = k [] left h
  operands_fall (operand ∷ operands) n left go k h =
      operands_fall operands n left (λ values after. if_given (evaluate operand after) (λ value last. go (value ∷ values) last))
      (λ values after a. if_given_at_most n (evaluate operand after) (λ value last. go (value ∷ values) last) (falls operand n after a) (λ value last b. k (value ∷ values) last b)) h

  one_falls : (operands : Option (List Form)) (n left : ℕ) → left ≤ n → AtMost n (one_value evaluate operands left)
  unfolding AtMost
  one_falls None n left h = h
  one_falls (Some []) n left h = h
  one_falls (Some (operand ∷ [])) n left h = falls operand n left h
  one_falls (Some (operand ∷ b ∷ more)) n left h = h

  branch_falls : (operands : Option (List Form)) (n left : ℕ) → left ≤ n → AtMost n (branch_value evaluate operands left)
  unfolding AtMost
  branch_falls None n left h = h
  branch_falls (Some []) n left h = h
  branch_falls (Some (a ∷ [])) n left h = h
  branch_falls (Some (a ∷ b ∷ [])) n left h = h
  branch_falls (Some (a ∷ b ∷ c ∷ [])) n left h =
      if_given_at_most n (evaluate a left) (λ value after. evaluate (chosen value b c) after) (falls a n left h) (λ value after k. falls (chosen value b c) n after k)
  branch_falls (Some (a ∷ b ∷ c ∷ d ∷ more)) n left h = h

  template_falls : Falls (template_value evaluate)
  unfolding AtMost
  template_falls (Atom at bytes) n left h = h
  template_falls (Symbol at name) n left h = h
  template_falls (Pair at first rest) n left h =
      cond_at_most n (is_symbol (codes "unquote") first) _ _ (one_falls (form_elements rest) n left h)
      (if_given_at_most n (template_value evaluate rest left) _ (template_falls rest n left h)
      (λ behind after a. if_given_at_most n (template_value evaluate first after) _ (template_falls first n after a) (λ front last b. b)))

  operation_falls : (place : Place) (operator : FormOperator) (operands : Option (List Form)) (n left : ℕ) → left ≤ n → AtMost n (operation_value evaluate place operator operands left)
  unfolding AtMost
  operation_falls place operator None n left h = h
  operation_falls place operator (Some operands) n left h =
      cond_at_most n (takes operator.count (length operands)) _ _
      (operands_fall operands n left (λ values after. unless_astray (operator.applied place values) after) (λ values after k. astray_at_most n (operator.applied place values) after k) h) h

module _ (evaluate : BodyEvaluator) (falls : Falls evaluate) where
  headed_falls : (place : Place) (head : BodyHead) (rest : Form) (n left : ℕ) → left ≤ n → AtMost n (headed_value evaluate place head rest left)
  unfolding AtMost
  headed_falls place Quotation rest n left h = h
  headed_falls place TemplateOf rest n left h = one_falls (template_value evaluate) (template_falls evaluate falls) (form_elements rest) n left h
  headed_falls place Branches rest n left h = branch_falls evaluate falls (form_elements rest) n left h
  headed_falls place (Operation operator) rest n left h = operation_falls evaluate falls place operator (form_elements rest) n left h
  headed_falls place NoHead rest n left h = h

  expression_falls : (call : MacroCall) → Falls (expression_value evaluate call)
  unfolding AtMost
  expression_falls call (Atom at bytes) n left h = h
  expression_falls call (Symbol at name) n left h = astray_at_most n (parameter_or (Symbol at name) (path_of name call.params) call.operands) left h
  expression_falls call (Pair at (Symbol head name) rest) n left h = headed_falls call.place (body_head name) rest n left h
  expression_falls call (Pair at (Atom place bytes) rest) n left h = h
  expression_falls call (Pair at (Pair place first more) rest) n left h = h

within_falls : (bound : ℕ) (call : MacroCall) → Falls (valued_within bound call)
unfolding AtMost
within_falls zero call form n left h = omega arith
within_falls (suc bound) call form n zero h = omega arith
within_falls (suc bound) call form n (suc left) h = expression_falls (valued_within bound call) (within_falls bound call) call form n left (omega (arith, h))

-- ---- the bound on expressions within each other

if_given_same : (n : ℕ) (v : BodyValue) (go go' : Form → ℕ → BodyValue) → AtMost n v → ((form : Form) (left : ℕ) → left ≤ n → go form left ≡ go' form left) → if_given v go ≡ if_given v go'
unfolding AtMost
if_given_same n (Gives form left) go go' h k = k form left h
if_given_same n (Stops fault left) go go' h k = refl

both_given_same : (n : ℕ) (v v' : BodyValue) (go go' : Form → ℕ → BodyValue) → v ≡ v' → AtMost n v → ((form : Form) (left : ℕ) → left ≤ n → go form left ≡ go' form left) → if_given v go ≡ if_given v' go'
both_given_same n v v' go go' e h k = if_given_same n v go go' h k ∙ ap (λ w. if_given w go') e

cond_same : (b : Bool) (v w v' w' : BodyValue) → v ≡ v' → w ≡ w' → cond b v w ≡ cond b v' w'
cond_same b v w v' w' e f = λ i. cond b (e i) (f i)

-- the same with no more turns than these
abbrev Same : ℕ → (Form → ℕ → BodyValue) → (Form → ℕ → BodyValue) → Type 0
Same n evaluate evaluate' = (form : Form) (left : ℕ) → left ≤ n → evaluate form left ≡ evaluate' form left

module _ (n : ℕ) (evaluate evaluate' : BodyEvaluator) (falls : Falls evaluate) (same : Same n evaluate evaluate') where
  operands_same : (operands : List Form) (left : ℕ) (go go' : List Form → ℕ → BodyValue) → ((values : List Form) (left : ℕ) → left ≤ n → go values left ≡ go' values left) → left ≤ n →
      operand_values evaluate operands left go ≡ operand_values evaluate' operands left go'
  operands_same [] left go go' k h = k [] left h
  operands_same (operand ∷ operands) left go go' k h =
      operands_same operands left _ _
      (λ values after a. both_given_same n (evaluate operand after) (evaluate' operand after) (λ value last. go (value ∷ values) last) (λ value last. go' (value ∷ values) last) (same operand after a) (falls operand n after a) (λ value last b. k (value ∷ values) last b)) h

  one_same : (operands : Option (List Form)) (left : ℕ) → left ≤ n → one_value evaluate operands left ≡ one_value evaluate' operands left
  one_same None left h = refl
  one_same (Some []) left h = refl
  one_same (Some (operand ∷ [])) left h = same operand left h
  one_same (Some (operand ∷ b ∷ more)) left h = refl

  branch_same : (operands : Option (List Form)) (left : ℕ) → left ≤ n → branch_value evaluate operands left ≡ branch_value evaluate' operands left
  branch_same None left h = refl
  branch_same (Some []) left h = refl
  branch_same (Some (a ∷ [])) left h = refl
  branch_same (Some (a ∷ b ∷ [])) left h = refl
  branch_same (Some (a ∷ b ∷ c ∷ [])) left h =
      both_given_same n (evaluate a left) (evaluate' a left) (λ value after. evaluate (chosen value b c) after) (λ value after. evaluate' (chosen value b c) after) (same a left h) (falls a n left h) (λ value after k. same (chosen value b c) after k)
  branch_same (Some (a ∷ b ∷ c ∷ d ∷ more)) left h = refl

  template_same : Same n (template_value evaluate) (template_value evaluate')
  template_same (Atom at bytes) left h = refl
  template_same (Symbol at name) left h = refl
  template_same (Pair at first rest) left h =
      cond_same (is_symbol (codes "unquote") first) _ _ _ _ (one_same (form_elements rest) left h)
      (both_given_same n (template_value evaluate rest left) (template_value evaluate' rest left)
      (λ behind after. if_given (template_value evaluate first after) (λ front last. Gives (Pair at front behind) last))
      (λ behind after. if_given (template_value evaluate' first after) (λ front last. Gives (Pair at front behind) last))
      (template_same rest left h) (template_falls evaluate falls rest n left h)
      (λ behind after a. ap (λ w. if_given w (λ front last. Gives (Pair at front behind) last)) (template_same first after a)))

  operation_same : (place : Place) (operator : FormOperator) (operands : Option (List Form)) (left : ℕ) → left ≤ n → operation_value evaluate place operator operands left ≡ operation_value evaluate' place operator operands left
  operation_same place operator None left h = refl
  operation_same place operator (Some operands) left h =
      cond_same (takes operator.count (length operands)) _ _ _ _
      (operands_same operands left (λ values after. unless_astray (operator.applied place values) after) (λ values after. unless_astray (operator.applied place values) after) (λ values after k. refl) h) refl

module _ (n : ℕ) (evaluate evaluate' : BodyEvaluator) (falls : Falls evaluate) (same : Same n evaluate evaluate') where
  headed_same : (place : Place) (head : BodyHead) (rest : Form) (left : ℕ) → left ≤ n → headed_value evaluate place head rest left ≡ headed_value evaluate' place head rest left
  headed_same place Quotation rest left h = refl
  headed_same place TemplateOf rest left h = one_same n (template_value evaluate) (template_value evaluate') (template_falls evaluate falls) (template_same n evaluate evaluate' falls same) (form_elements rest) left h
  headed_same place Branches rest left h = branch_same n evaluate evaluate' falls same (form_elements rest) left h
  headed_same place (Operation operator) rest left h = operation_same n evaluate evaluate' falls same place operator (form_elements rest) left h
  headed_same place NoHead rest left h = refl

  expression_same : (call : MacroCall) → Same n (expression_value evaluate call) (expression_value evaluate' call)
  expression_same call (Atom at bytes) left h = refl
  expression_same call (Symbol at name) left h = refl
  expression_same call (Pair at (Symbol head name) rest) left h = headed_same call.place (body_head name) rest left h
  expression_same call (Pair at (Atom place bytes) rest) left h = refl
  expression_same call (Pair at (Pair place first more) rest) left h = refl

within_same : (turns bound more : ℕ) (call : MacroCall) → turns ≤ bound → turns ≤ more → (form : Form) (left : ℕ) → left ≤ turns → valued_within bound call form left ≡ valued_within more call form left
within_same turns zero zero call h k form left below = refl
within_same turns zero (suc more) call h k form zero below = refl
within_same turns zero (suc more) call h k form (suc left) below = absurd (omega (arith, h, below))
within_same turns (suc bound) zero call h k form zero below = refl
within_same turns (suc bound) zero call h k form (suc left) below = absurd (omega (arith, k, below))
within_same turns (suc bound) (suc more) call h k form zero below = refl
within_same zero (suc bound) (suc more) call h k form (suc left) below = absurd (omega (arith, below))
within_same (suc turns) (suc bound) (suc more) call h k form (suc left) below =
    expression_same turns (valued_within bound call) (valued_within more call) (within_falls bound call)
    (within_same turns bound more call (omega (arith, h)) (omega (arith, k))) call form left (omega (arith, below))

pub bound_law : BodyBoundIsEnough
unfolding body_value
bound_law call form bound turns h = within_same turns bound turns call h (omega arith) form turns (omega arith)

pub body_falls : (call : MacroCall) → Falls (body_value call)
unfolding body_value
body_falls call form n left h = within_falls left call form n left h

pub step_law : BodyIsItsStep
unfolding body_value
step_law call form zero = refl
step_law call form (suc turns) =
    expression_same turns (valued_within turns call) (body_value call) (within_falls turns call)
    (λ form left h. bound_law call form turns left h) call form turns (omega arith)
