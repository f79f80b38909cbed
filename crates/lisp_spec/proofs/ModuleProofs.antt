-- What the stages of a module without fault say of it.
use Rattle.std.proofs.Common.{◌≡◌, ℕ, ◌≤◌, Bool, true, false, not, ◌&&◌, ◌||◌, cond, List, [], ◌∷◌, ◌++◌, map, filter, Option, Some, None, Ok, Err, refl, sym, ◌∙◌, ap, subst, arith, append_assoc, leb-true, nat_lt}
use Rattle.std.proofs.lemmas.List.{append-nil, map-append}
use Rattle.clvm_spec.specs.Tree.{Tree, list_tree}
use Rattle.clvm_spec.specs.Outcomes.{Applied, Gives, Fails, TooWide}
use Rattle.clvm_spec.specs.Operators.{is_nil}
use Rattle.clvm_spec.specs.OperatorTable.{applied}
use Rattle.lisp_spec.specs.Forms.{Form, Place}
use Rattle.lisp_spec.specs.Modules.{Definition, Constant, Module, constant_named}
use Rattle.lisp_spec.specs.Weights.{tree_weight, weight_limit}
use Rattle.lisp_spec.specs.ModuleFaults.{InlineCycle, TooLarge, fault, Judged, ◌or◌, unless, expect, fault_of}
use Rattle.lisp_spec.specs.Definitions as roles
use Rattle.lisp_spec.specs.Definitions.{Role, Function, Inline, Macro, Written, is_role, names_of, constants_in, macros_in, without_macros, functions_in, inlines_in, definition}
use Rattle.lisp_spec.specs.Inclusion.{Texts, Parts, parts_of_text, definitions_of}
use Rattle.lisp_spec.specs.Expressions.{Expression, Literal, Name, Choice, Listing, Operation, FunctionCall, InlineCall, Filled, Scope, expression_of}
use Rattle.lisp_spec.specs.Scopes.{constant_scope, body_scope, IsExpression}
use Rattle.lisp_spec.specs.Constants.{met, result_value, named_value, expression_value, operand_values, template_value, constant_value, with_constant, constants_after}
use Rattle.lisp_spec.specs.Cycles.{reaches_itself}
use Rattle.lisp_spec.specs.ExpressionWeights.{expression_weight, definition_weight}
use Rattle.lisp_spec.specs.ModuleOf.{Draft, draft_of, draft_scope, forms_fault, draft_fault, cycle_fault, is_light, weights_fault, module_with, module_fault}
use Rattle.lisp_spec.specs.ModuleLaws.{StandsFor, IsBound, NamesAreBound, InlinesEnd, WeightsAreWithinTheLimit, ValuesAreWithinTheLimit}
use Rattle.lisp_spec.specs.Modules.{definition_names, constant_names}
use Rattle.std.specs.List.{AllByRecursion}
pub use Rattle.lisp_spec.proofs.Reading.{then_ok, ok, ok_is, unless_ok, or_none, expect_none}

-- ---- steps

-- what the stages of a module without fault gave
pub record Stages (texts : Texts) (text : List ℕ) (m : Module) : Type 0 where
  pub parts : Parts
  pub written : List Written
  pub draft : Draft
  pub constants : List Constant
  pub reads : parts_of_text text ≡ Ok parts
  pub defines : definitions_of texts parts ≡ Ok written
  pub expands : draft_of parts written ≡ Ok draft
  pub names : draft_fault draft ≡ None
  pub values : constants_after [] (constants_in draft.definitions) ≡ Ok constants
  pub ends : module_fault draft (module_with draft constants) ≡ None
  pub is : module_with draft constants ≡ m

pub stages : (texts : Texts) (text : List ℕ) (m : Module) → StandsFor texts text m → Stages texts text m
stages texts text m e =
    let a = then_ok (parts_of_text text) _ m e in
    let b = then_ok (definitions_of texts a.0) _ m a.2 in
    let c = then_ok (draft_of a.0 b.0) _ m b.2 in
    let d = then_ok (unless (draft_fault c.0) c.0) _ m c.2 in
    let n = unless_ok (draft_fault c.0) c.0 d.0 d.1 in
    let v = then_ok (constants_after [] (constants_in d.0.definitions)) _ m d.2 in
    let w = unless_ok (module_fault d.0 (module_with d.0 v.0)) (module_with d.0 v.0) m v.2 in
    record {
      parts = a.0;
      written = b.0;
      draft = d.0;
      constants = v.0;
      reads = a.1;
      defines = b.1;
      expands = c.1 ∙ ap Ok n.1;
      names = subst (λ t. draft_fault t ≡ None) n.1 n.0;
      values = v.1;
      ends = w.0;
      is = w.1;
    }

-- ---- each

pub each_append : {A : Type 0} (P : A → Type 0) (xs ys : List A) → AllByRecursion P xs → AllByRecursion P ys → AllByRecursion P (xs ++ ys)
each_append P [] ys p q = q
each_append P (x ∷ xs) ys p q = (p.0, each_append P xs ys p.1 q)

pub each_map : {A B : Type 0} (P : B → Type 0) (f : A → B) (xs : List A) → AllByRecursion (λ x. P (f x)) xs → AllByRecursion P (map f xs)
each_map P f [] p = tt
each_map P f (x ∷ xs) p = (p.0, each_map P f xs p.1)

pub each_weaker : {A : Type 0} (P Q : A → Type 0) → ((x : A) → P x → Q x) → (xs : List A) → AllByRecursion P xs → AllByRecursion Q xs
each_weaker P Q h [] p = tt
each_weaker P Q h (x ∷ xs) p = (h x p.0, each_weaker P Q h xs p.1)

if_kept : {A : Type 0} (P : A → Type 0) (x : A) (xs : List A) (keep : Bool) → (keep ≡ true → P x) → AllByRecursion P xs → AllByRecursion P (cond keep (x ∷ xs) xs)
if_kept P x xs true p q = (p refl, q)
if_kept P x xs false p q = q

-- Those that pass a test have what each has that passes it.
pub each_filter : {A : Type 0} (P : A → Type 0) (test : A → Bool) (xs : List A) → AllByRecursion (λ x. test x ≡ true → P x) xs → AllByRecursion P (filter test xs)
each_filter P test [] p = tt
each_filter P test (x ∷ xs) p = if_kept P x (filter test xs) (test x) p.0 (each_filter P test xs p.1)

-- ---- functions and inlines

-- what holds of each that is no constant
abbrev pub NoConstant : (Written → Type 0) → Written → Type 0
NoConstant P d = is_role roles.Constant d.role ≡ false → P d

function_is_none : (role : Role) → is_role Function role ≡ true → is_role roles.Constant role ≡ false
function_is_none Function e = refl
function_is_none Inline e = absurd cc
function_is_none Macro e = absurd cc
function_is_none roles.Constant e = absurd cc

inline_is_none : (role : Role) → is_role Inline role ≡ true → is_role roles.Constant role ≡ false
inline_is_none Function e = absurd cc
inline_is_none Inline e = refl
inline_is_none Macro e = absurd cc
inline_is_none roles.Constant e = absurd cc

pub of_functions : (P : Definition → Type 0) (definitions : List Written) → AllByRecursion (NoConstant (λ d. P (definition d))) definitions → AllByRecursion P (functions_in definitions)
of_functions P definitions h =
    each_map P definition (filter (λ d. is_role Function d.role) definitions)
    (each_filter (λ d. P (definition d)) (λ d. is_role Function d.role) definitions
    (each_weaker (NoConstant (λ d. P (definition d))) (λ d. is_role Function d.role ≡ true → P (definition d)) (λ d p e. p (function_is_none d.role e)) definitions h))

pub of_inlines : (P : Definition → Type 0) (definitions : List Written) → AllByRecursion (λ d. is_role Inline d.role ≡ true → P (definition d)) definitions → AllByRecursion P (inlines_in definitions)
of_inlines P definitions h = each_map P definition (filter (λ d. is_role Inline d.role) definitions) (each_filter (λ d. P (definition d)) (λ d. is_role Inline d.role) definitions h)

pub of_all_inlines : (P : Definition → Type 0) (definitions : List Written) → AllByRecursion (NoConstant (λ d. P (definition d))) definitions → AllByRecursion P (inlines_in definitions)
of_all_inlines P definitions h =
    of_inlines P definitions (each_weaker (NoConstant (λ d. P (definition d))) (λ d. is_role Inline d.role ≡ true → P (definition d)) (λ d p e. p (inline_is_none d.role e)) definitions h)

-- ---- names

-- A form without fault is an expression.
abbrev Reads : Scope → Form → Type 0
Reads scope f = (e : Expression) × IsExpression scope f e

reads : {A : Type 0} (judged : Judged A) → fault_of judged ≡ None → (a : A) × (judged ≡ Ok a)
reads (Ok a) e = (a, refl)
reads (Err f) e = absurd cc

constant_step : (scope : Form → Scope) (earlier : List (List ℕ)) (d : Written) (definitions : List Written) (is : Bool) →
    cond is (fault_of (expression_of d.body (constant_scope earlier)) or forms_fault scope (earlier ++ d.name ∷ []) definitions)
    (fault_of (expression_of d.body (scope d.params)) or forms_fault scope earlier definitions) ≡ None →
    (is ≡ false → Reads (scope d.params) d.body) × ((next : List (List ℕ)) × (forms_fault scope next definitions ≡ None))
constant_step scope earlier d definitions true e = (λ n. absurd cc, (earlier ++ d.name ∷ [], (or_none _ _ e).1))
constant_step scope earlier d definitions false e = let h = or_none _ _ e in (λ n. reads (expression_of d.body (scope d.params)) h.0, (earlier, h.1))

bound_bodies : (scope : Form → Scope) (earlier : List (List ℕ)) (definitions : List Written) → forms_fault scope earlier definitions ≡ None →
    AllByRecursion (NoConstant (λ d. Reads (scope d.params) d.body)) definitions
bound_bodies scope earlier [] e = tt
bound_bodies scope earlier (d ∷ definitions) e =
    let h = constant_step scope earlier d definitions (is_role roles.Constant d.role) e in (h.0, bound_bodies scope h.1.0 definitions h.1.1)

pub names_after : (earlier : List Constant) (definitions : List Written) (constants : List Constant) → constants_after earlier definitions ≡ Ok constants →
    constant_names constants ≡ constant_names earlier ++ names_of definitions
names_after earlier [] constants e = ap constant_names (sym (ok_is earlier constants e)) ∙ sym (append-nil (constant_names earlier))
names_after earlier (d ∷ definitions) constants e =
    let v = then_ok (constant_value earlier d) _ constants e in
    names_after (with_constant d v.0 earlier) definitions constants v.2
    ∙ ap (λ t. t ++ names_of definitions) (map-append (λ c. c.name) earlier (record { name = d.name; value = v.0 } ∷ []))
    ∙ append_assoc (constant_names earlier) (d.name ∷ []) (names_of definitions)

pub names_are_bound : NamesAreBound
names_are_bound texts text m e =
    let s = stages texts text m e in
    let d = s.draft in
    let h = or_none (forms_fault (draft_scope d.definitions) [] d.definitions) (fault_of (expression_of d.body (draft_scope d.definitions d.params))) s.names in
    let bodies = bound_bodies (draft_scope d.definitions) [] d.definitions h.0 in
    let n : constant_names s.constants ≡ names_of (constants_in d.definitions) = names_after [] (constants_in d.definitions) s.constants s.values in
    let scoped : (names : List (List ℕ)) → Form → Scope = λ names. body_scope names (definition_names (functions_in d.definitions)) (definition_names (inlines_in d.definitions)) in
    subst (λ m. AllByRecursion (λ f. IsBound m f.params f.body) m.functions × AllByRecursion (λ f. IsBound m f.params f.body) m.inlines × IsBound m m.params m.body) s.is
    (subst (λ names. AllByRecursion (λ f. Reads (scoped names f.params) f.body) (functions_in d.definitions)
    × AllByRecursion (λ f. Reads (scoped names f.params) f.body) (inlines_in d.definitions)
    × Reads (scoped names d.params) d.body) (sym n) (
      of_functions (λ f. Reads (draft_scope d.definitions f.params) f.body) d.definitions bodies,
      of_all_inlines (λ f. Reads (draft_scope d.definitions f.params) f.body) d.definitions bodies,
      reads (expression_of d.body (draft_scope d.definitions d.params)) h.1,
    ))

-- ---- inlines and weights

not_both : (a b : Bool) → not (a && b) ≡ true → a ≡ true → b ≡ false
not_both true true e h = absurd cc
not_both true false e h = refl
not_both false b e h = absurd cc

either_one : (a b : Bool) → (a || b) ≡ true → a ≡ false → b ≡ true
either_one true b e h = absurd cc
either_one false b e h = e

no_cycles : (m : Module) (definitions : List Written) → cycle_fault m definitions ≡ None →
    AllByRecursion (λ d. is_role Inline d.role ≡ true → reaches_itself m d.name ≡ false) definitions
no_cycles m [] e = tt
no_cycles m (d ∷ definitions) e =
    let h = or_none (expect (not (is_role Inline d.role && reaches_itself m d.name)) InlineCycle d.place) (cycle_fault m definitions) e in
    (not_both (is_role Inline d.role) (reaches_itself m d.name) (expect_none _ _ _ h.0), no_cycles m definitions h.1)

pub inlines_end : InlinesEnd
inlines_end texts text m e =
    let s = stages texts text m e in
    let made = module_with s.draft s.constants in
    let h = or_none (cycle_fault made s.draft.definitions) _ s.ends in
    subst (λ m. AllByRecursion (λ d. reaches_itself m d.name ≡ false) m.inlines) s.is
    (of_inlines (λ d. reaches_itself made d.name ≡ false) s.draft.definitions (no_cycles made s.draft.definitions h.0))

light_bodies : (m : Module) (definitions : List Written) → weights_fault m definitions ≡ None →
    AllByRecursion (NoConstant (λ d. definition_weight m (definition d) ≤ weight_limit)) definitions
light_bodies m [] e = tt
light_bodies m (d ∷ definitions) e =
    let h = or_none (expect (is_role roles.Constant d.role || is_light m d.params d.body) TooLarge d.place) (weights_fault m definitions) e in
    (λ n. leb-true _ _ (either_one (is_role roles.Constant d.role) (is_light m d.params d.body) (expect_none _ _ _ h.0) n), light_bodies m definitions h.1)

pub weights_are_within_the_limit : WeightsAreWithinTheLimit
weights_are_within_the_limit texts text m e =
    let s = stages texts text m e in
    let made = module_with s.draft s.constants in
    let h = or_none (cycle_fault made s.draft.definitions) _ s.ends in
    let w = or_none (weights_fault made s.draft.definitions) (expect (is_light made made.params made.body) TooLarge s.draft.body_place) h.1 in
    let bodies = light_bodies made s.draft.definitions w.0 in
    subst (λ m. AllByRecursion (λ d. definition_weight m d ≤ weight_limit) m.functions × AllByRecursion (λ d. definition_weight m d ≤ weight_limit) m.inlines
    × (expression_weight m m.params m.body ≤ weight_limit)) s.is (
      of_functions (λ d. definition_weight made d ≤ weight_limit) s.draft.definitions bodies,
      of_all_inlines (λ d. definition_weight made d ≤ weight_limit) s.draft.definitions bodies,
      leb-true _ _ (expect_none _ _ _ w.1),
    )

-- ---- values

met_light : (place : Place) (v tree : Tree) (heavy : Bool) → heavy ≡ nat_lt weight_limit (tree_weight v) →
    cond heavy (Err (fault TooLarge place)) (Ok v) ≡ ok tree → tree_weight tree ≤ weight_limit
met_light place v tree true h e = absurd cc
met_light place v tree false h e = subst (λ t. tree_weight t ≤ weight_limit) (ok_is v tree e) (grind (arith, h))

pub met_is_light : (place : Place) (v tree : Tree) → met place v ≡ Ok tree → tree_weight tree ≤ weight_limit
met_is_light place v tree e = met_light place v tree (nat_lt weight_limit (tree_weight v)) refl e

one_is_light : (is : Bool) (a b : Judged Tree) (tree : Tree) → (a ≡ Ok tree → tree_weight tree ≤ weight_limit) → (b ≡ Ok tree → tree_weight tree ≤ weight_limit) → cond is a b ≡ Ok tree → tree_weight tree ≤ weight_limit
one_is_light true a b tree p q e = p e
one_is_light false a b tree p q e = q e

named_is_light : (place : Place) (found : Option Constant) (tree : Tree) → named_value place found ≡ Ok tree → tree_weight tree ≤ weight_limit
named_is_light place None tree e = absurd cc
named_is_light place (Some c) tree e = met_is_light place c.value tree e

result_is_light : (place : Place) (result : Applied) (tree : Tree) → result_value place result ≡ Ok tree → tree_weight tree ≤ weight_limit
result_is_light place (Gives value cost pairs bytes) tree e = met_is_light place value tree e
result_is_light place (Fails why) tree e = absurd cc
result_is_light place TooWide tree e = absurd cc

pub value_is_light : (place : Place) (earlier : List Constant) (e : Expression) (tree : Tree) → expression_value place earlier e ≡ Ok tree → tree_weight tree ≤ weight_limit
value_is_light place earlier (Literal value) tree h = met_is_light place value tree h
value_is_light place earlier (Name name) tree h = named_is_light place (constant_named name earlier) tree h
value_is_light place earlier (Choice condition second third) tree h =
    let v = then_ok (expression_value place earlier condition) _ tree h in
    one_is_light (is_nil v.0) (expression_value place earlier third) (expression_value place earlier second) tree (value_is_light place earlier third tree) (value_is_light place earlier second tree) v.2
value_is_light place earlier (Listing operands) tree h = let v = then_ok (operand_values place earlier operands) _ tree h in met_is_light place (list_tree v.0) tree v.2
value_is_light place earlier (Operation code operands) tree h = let v = then_ok (operand_values place earlier operands) _ tree h in result_is_light place (applied (code ∷ []) v.0) tree v.2
value_is_light place earlier (FunctionCall name operands) tree h = absurd cc
value_is_light place earlier (InlineCall name operands) tree h = absurd cc
value_is_light place earlier (Filled template) tree h = let v = then_ok (template_value place earlier template) (met place) tree h in met_is_light place v.0 tree v.2

light_after : (earlier : List Constant) (definitions : List Written) (constants : List Constant) → constants_after earlier definitions ≡ Ok constants →
    AllByRecursion (λ c. tree_weight c.value ≤ weight_limit) earlier → AllByRecursion (λ c. tree_weight c.value ≤ weight_limit) constants
light_after earlier [] constants e h = subst (AllByRecursion (λ c. tree_weight c.value ≤ weight_limit)) (ok_is earlier constants e) h
light_after earlier (d ∷ definitions) constants e h =
    let v = then_ok (constant_value earlier d) _ constants e in
    let x = then_ok (expression_of d.body (constant_scope (constant_names earlier))) _ v.0 v.1 in
    light_after (with_constant d v.0 earlier) definitions constants v.2
    (each_append (λ c. tree_weight c.value ≤ weight_limit) earlier (record { name = d.name; value = v.0 } ∷ []) h
    (value_is_light d.place earlier x.0 v.0 x.2, tt))

pub values_are_within_the_limit : ValuesAreWithinTheLimit
values_are_within_the_limit texts text m e =
    let s = stages texts text m e in
    subst (λ m. AllByRecursion (λ c. tree_weight c.value ≤ weight_limit) m.constants) s.is (light_after [] (constants_in s.draft.definitions) s.constants s.values tt)
