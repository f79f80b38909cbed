-- Laws of evaluation and of open forms, on trees.
use Rattle.std.proofs.Common.{◌≡◌, ℕ, suc, ◌≤◌, true, false, List, [], ◌∷◌, ◌++◌, length, refl, sym, ◌∙◌, ap, append_assoc}
use Rattle.std.proofs.lemmas.Bool.{cond-true, cond-false, ltb-false}
use Rattle.std.proofs.lemmas.List.{append-nil}
use Rattle.clvm_spec.specs.declared.fuel.Fuel.{Fuel}
use Rattle.clvm_spec.specs.declared.fuel.Which.TheVariants.{Cost, Depth}
use Rattle.clvm_spec.specs.Tree.{Tree, Atom, Pair}
use Rattle.clvm_spec.specs.ProperList.{elements}
use Rattle.clvm_spec.specs.Path.{path_value}
use Rattle.clvm_spec.specs.Outcomes.{NoOperator, Outcome, Done, Failed, Spent, Wide}
use Rattle.clvm_spec.specs.Evaluation.{if_done, charge, is_byte, is_code, at_path, goes_on, in_form, apply_values, values_of, is_too_deep, deeper, operator_form, atom_form, evaluation}
use Rattle.clvm_spec.specs.declared.costs.TheConstants.{QUOTE_COST}
use Rattle.clvm_spec.specs.OperatorTable.{quote_code, apply_code}
use Rattle.clvm_spec.specs.Spending.{exceeds}
use Rattle.clvm_spec.proofs.Steps.{one_step_law}
use Rattle.clvm_tree.specs.Operators.{outcome_by}
use Rattle.clvm_eval.specs.OpenForms.{OpenForm, operated, form_outcome, with_value, goes_through}
use Rattle.clvm_eval.specs.Steps.{Pays}

-- ---- paying

pub charge-paid : (cost : ℕ) (old new : Fuel) (go : Fuel → Outcome) → Pays cost old new → charge cost old go ≡ go new
charge-paid cost old new go paid = cond-false (exceeds cost old.cost) _ _ paid.enough ∙ ap go (sym paid.is)

pub charge-short : (cost : ℕ) (old : Fuel) (go : Fuel → Outcome) → exceeds cost old.cost ≡ true → charge cost old go ≡ Spent Cost
charge-short cost old go short = cond-true (exceeds cost old.cost) _ _ short

pub paid-enough : (cost : ℕ) (old new : Fuel) → Pays cost old new → cost ≤ old.cost
paid-enough cost old new paid = ltb-false old.cost cost paid.enough

pub deeper-within : (operands : List Tree) (depth : ℕ) (left : Fuel) (go : Fuel → Outcome) → is_too_deep (length operands) depth left.depth ≡ false → deeper operands depth left go ≡ go left
deeper-within operands depth left go within = cond-false (is_too_deep (length operands) depth left.depth) _ _ within

pub deeper-spent : (operands : List Tree) (depth : ℕ) (left : Fuel) (go : Fuel → Outcome) → is_too_deep (length operands) depth left.depth ≡ true → deeper operands depth left go ≡ Spent Depth
deeper-spent operands depth left go deep = cond-true (is_too_deep (length operands) depth left.depth) _ _ deep

-- ---- one after another

pub if_done-again : (o : Outcome) (f g : Tree → Fuel → Outcome) → if_done (if_done o f) g ≡ if_done o (λ v l. if_done (f v l) g)
if_done-again (Done value left) f g = refl
if_done-again (Failed why form) f g = refl
if_done-again (Spent which) f g = refl
if_done-again Wide f g = refl

pub if_done-done : (o : Outcome) → if_done o Done ≡ o
if_done-done (Done value left) = refl
if_done-done (Failed why form) = refl
if_done-done (Spent which) = refl
if_done-done Wide = refl

-- ---- open forms

-- The last operand is evaluated first.
values_of-last : (value : Tree → Fuel → Outcome) (xs : List Tree) (x : Tree) (left : Fuel) (go : List Tree → Fuel → Outcome) →
    values_of value (xs ++ x ∷ []) left go ≡ if_done (value x left) (λ v after. values_of value xs after (λ vs last. go (vs ++ v ∷ []) last))
values_of-last value [] x left go = refl
values_of-last value (y ∷ ys) x left go = values_of-last value ys x left (λ values after. if_done (value y after) (λ v last. go (v ∷ values) last))

pub form-last : (opened : OpenForm) (before : List Tree) (program : Tree) (left : Fuel) → opened.programs ≡ before ++ program ∷ [] →
    form_outcome opened left
    ≡ if_done (evaluation program opened.env (suc opened.depth) left) (λ v after. form_outcome (with_value (record opened { programs = before }) v) after)
form-last opened before program left is =
    let value = λ (operand : Tree). evaluation operand opened.env (suc opened.depth) in
    let apply = λ (values : List Tree) (after : Fuel). operated opened.code opened.form opened.depth (values ++ opened.values) after in
    ap (λ ps. values_of value ps left apply) is
    ∙ values_of-last value before program left apply
    ∙ ap (if_done (value program left))
    (λ i v after. values_of value before after (λ vs last. operated opened.code opened.form opened.depth (append_assoc vs (v ∷ []) opened.values i) last))

-- where all values are there
pub form-ready : (opened : OpenForm) (left : Fuel) → opened.programs ≡ [] → form_outcome opened left ≡ operated opened.code opened.form opened.depth opened.values left
form-ready opened left none =
    ap (λ ps. values_of (λ operand. evaluation operand opened.env (suc opened.depth)) ps left (λ values after. operated opened.code opened.form opened.depth (values ++ opened.values) after)) none

-- where none is
pub form-begun : (opened : OpenForm) (code : List ℕ) (left : Fuel) → opened.code ≡ Atom code → opened.values ≡ [] →
    form_outcome opened left ≡ values_of (λ operand. evaluation operand opened.env (suc opened.depth)) opened.programs left (apply_values evaluation code opened.form opened.depth)
form-begun opened code left is none =
    let value = λ (operand : Tree). evaluation operand opened.env (suc opened.depth) in
    ap (λ c. values_of value opened.programs left (λ values after. operated c opened.form opened.depth (values ++ opened.values) after)) is
    ∙ ap (λ more. values_of value opened.programs left (λ values after. apply_values evaluation code opened.form opened.depth (values ++ more) after)) none
    ∙ ap (values_of value opened.programs left) (λ i values after. apply_values evaluation code opened.form opened.depth (append-nil values i) after)

pub goes_through-last : (opens : List OpenForm) (opened : OpenForm) (go : Tree → Fuel → Outcome) →
    goes_through (opens ++ opened ∷ []) go ≡ (λ value left. if_done (form_outcome (with_value opened value) left) (goes_through opens go))
goes_through-last [] opened go = refl
goes_through-last (o ∷ opens) opened go = goes_through-last opens opened (λ value left. if_done (form_outcome (with_value o value) left) go)

-- ---- the operator of a code

pub operated-apply : (code form : Tree) (depth : ℕ) (values : List Tree) (left : Fuel) → is_code apply_code code ≡ true → operated code form depth values left ≡ goes_on evaluation form depth values left
operated-apply (Atom code) form depth values left apply = cond-true (is_byte apply_code code) _ _ apply
operated-apply (Pair first rest) form depth values left apply = absurd cc

pub operated-other : (code form : Tree) (depth : ℕ) (values : List Tree) (left : Fuel) → is_code apply_code code ≡ false → operated code form depth values left ≡ in_form form left (outcome_by code values left)
operated-other (Atom code) form depth values left other = cond-false (is_byte apply_code code) _ _ other
operated-other (Pair first rest) form depth values left other = refl

-- ---- one step of evaluation

pub ev-path : (program env : Tree) (depth : ℕ) (left : Fuel) (path : List ℕ) → program ≡ Atom path → evaluation program env depth left ≡ at_path path (path_value path env) left
ev-path program env depth left path is = ap (λ p. evaluation p env depth left) is ∙ one_step_law (Atom path) env depth left

pub ev-pair : (program env : Tree) (depth : ℕ) (left : Fuel) (head rest a b : Tree) → program ≡ Pair head rest → head ≡ Pair a b → evaluation program env depth left ≡ Failed NoOperator program
ev-pair program env depth left head rest a b is pair =
    let whole : program ≡ Pair (Pair a b) rest = is ∙ ap (λ h. Pair h rest) pair in
    ap (λ p. evaluation p env depth left) whole ∙ one_step_law (Pair (Pair a b) rest) env depth left ∙ ap (Failed NoOperator) (sym whole)

atom_form_is : (program env : Tree) (depth : ℕ) (left : Fuel) (head rest : Tree) (code : List ℕ) → program ≡ Pair head rest → head ≡ Atom code → evaluation program env depth left ≡ atom_form evaluation code rest env depth left
atom_form_is program env depth left head rest code is atom =
    let whole : program ≡ Pair (Atom code) rest = is ∙ ap (λ h. Pair h rest) atom in
    ap (λ p. evaluation p env depth left) whole ∙ one_step_law (Pair (Atom code) rest) env depth left

ev-quote : (program env : Tree) (depth : ℕ) (left : Fuel) (head rest : Tree) (code : List ℕ) → program ≡ Pair head rest → head ≡ Atom code → is_byte quote_code code ≡ true → evaluation program env depth left ≡ charge QUOTE_COST left (Done rest)
ev-quote program env depth left head rest code is atom quote =
    atom_form_is program env depth left head rest code is atom ∙ cond-true (is_byte quote_code code) _ _ quote

pub ev-quoted : (program env : Tree) (depth : ℕ) (left : Fuel) (head rest : Tree) → program ≡ Pair head rest → is_code quote_code head ≡ true → evaluation program env depth left ≡ charge QUOTE_COST left (Done rest)
ev-quoted program env depth left (Atom code) rest is quote = ev-quote program env depth left (Atom code) rest code is refl quote
ev-quoted program env depth left (Pair a b) rest is quote = absurd cc

pub ev-form : (program env : Tree) (depth : ℕ) (left : Fuel) (head rest : Tree) (code : List ℕ) → program ≡ Pair head rest → head ≡ Atom code → is_byte quote_code code ≡ false → evaluation program env depth left ≡ operator_form evaluation code program env depth (elements rest) left
ev-form program env depth left head rest code is atom other =
    let whole : program ≡ Pair (Atom code) rest = is ∙ ap (λ h. Pair h rest) atom in
    atom_form_is program env depth left head rest code is atom ∙ cond-false (is_byte quote_code code) _ _ other
    ∙ ap (λ p. operator_form evaluation code p env depth (elements rest) left) (sym whole)
