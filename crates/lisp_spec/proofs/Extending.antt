-- An expression means the same in each module that has all that is named in it.
use Rattle.std.proofs.Common.{◌≡◌, ℕ, zero, suc, Bool, true, false, cond, List, [], ◌∷◌, ◌++◌, Option, Some, None, refl, sym, ◌∙◌, ap, subst}
use Rattle.std.specs.List.{AllByRecursion}
use Rattle.clvm_spec.specs.Tree.{Tree, list_tree}
use Rattle.clvm_spec.specs.Operators.{is_nil}
use Rattle.lisp_spec.specs.Forms.{Form}
use Rattle.lisp_spec.specs.Modules.{Module, Definition, definition_named, constant_named, definition_names, constant_names}
use Rattle.lisp_spec.specs.Parameters.{Parameter, parameters, parameter_names, tree_at}
use Rattle.lisp_spec.specs.ModuleFaults.{is_among}
use Rattle.lisp_spec.specs.Expressions.{Expression, Literal, Name, Choice, Listing, Operation, FunctionCall, InlineCall, Filled, Operands, NoMore, Operand, Template, Plain, Both, Unquoted, Scope}
use Rattle.lisp_spec.specs.Scopes.{body_of, module_scope, IsExpression}
use Rattle.lisp_spec.specs.ModuleLaws.{IsBound}
use Rattle.lisp_spec.specs.Environments.{Environment, Empty, Bound, Astray, Stands, Binding, ToFound, ToNoStep, ToExpression, ToNothing, binding_of, bound_to, all_bound, function_environment, operand_at, standing, expressions_bound, inline_environment}
use Rattle.lisp_spec.specs.Meaning.{Meaning, Value, Failed, Wide, Out, Means, if_value, constant_meaning, name_meaning, body_meaning, function_call, inline_call, expression_meaning, operands_meaning, template_meaning, meaning_within}
use Rattle.lisp_spec.proofs.NamesFound.{found_has, among_behind, names_in, nothing_bound, bound_names, standing_names}
use Rattle.lisp_spec.proofs.Soundness.{IsSound, AreSound, IsSoundTemplate, is_sound, IsSoundOption, sound_at}

-- what may be named where these names stand
abbrev pub scope_with : Module → List (List ℕ) → Scope
scope_with m names = record { symbols = names ++ constant_names m.constants; functions = definition_names m.functions; inlines = definition_names m.inlines; may_run = true }

-- ---- environments

module _ (m : Module) where
  -- Each expression names only what may be named where it stands.
  abbrev pub StandSound : Environment Tree → Type 0
  StandSound Empty = Unit {0}
  StandSound (Bound name tree others) = StandSound others
  StandSound (Astray name others) = StandSound others
  StandSound (Stands name e there others) = (IsSound (scope_with m (names_in there)) e × StandSound there) × StandSound others

  abbrev pub BoundSound : Binding Tree → Type 0
  BoundSound (ToFound tree) = Unit {0}
  BoundSound ToNoStep = Unit {0}
  BoundSound (ToExpression e there) = IsSound (scope_with m (names_in there)) e × StandSound there
  BoundSound ToNothing = Unit {0}

  either_sound : (is : Bool) (x y : Binding Tree) → BoundSound x → BoundSound y → BoundSound (cond is x y)
  either_sound true x y p q = p
  either_sound false x y p q = q

  binding_sound : (name : List ℕ) (env : Environment Tree) → StandSound env → BoundSound (binding_of name env)
  binding_sound name Empty h = tt
  binding_sound name (Bound other tree others) h = either_sound _ (ToFound tree) (binding_of name others) tt (binding_sound name others h)
  binding_sound name (Astray other others) h = either_sound _ ToNoStep (binding_of name others) tt (binding_sound name others h)
  binding_sound name (Stands other e there others) h = either_sound _ (ToExpression e there) (binding_of name others) h.0 (binding_sound name others h.1)

  bind_sound : (name : List ℕ) (found : Option Tree) (env : Environment Tree) → StandSound env → StandSound (bound_to name found env)
  bind_sound name None env h = h
  bind_sound name (Some tree) env h = h

  pub trees_sound : (ps : List Parameter) (tree : Tree) → StandSound (all_bound (λ path. tree_at path tree) ps)
  trees_sound [] tree = tt
  trees_sound (p ∷ ps) tree = bind_sound p.name (tree_at p.path tree) _ (trees_sound ps tree)

  stand_sound : (name : List ℕ) (e : Option Expression) (there others : Environment Tree) → IsSoundOption (scope_with m (names_in there)) e → StandSound there → StandSound others → StandSound (standing name e there others)
  stand_sound name None there others h k l = l
  stand_sound name (Some e) there others h k l = ((h, k), l)

  expressions_sound : (ps : List Parameter) (operands : Operands) (there : Environment Tree) → AreSound (scope_with m (names_in there)) operands → StandSound there → StandSound (expressions_bound ps operands there)
  expressions_sound [] operands there h k = tt
  expressions_sound (p ∷ ps) operands there h k =
      stand_sound p.name (operand_at p.path operands) there _ (sound_at (scope_with m (names_in there)) p.path operands h) k (expressions_sound ps operands there h k)

-- ---- meanings

if_value_same : (meant meant' : Meaning) (go go' : Tree → Meaning) → meant' ≡ meant → ((value : Tree) → go' value ≡ go value) → if_value meant' go' ≡ if_value meant go
if_value_same meant meant' go go' e h = ap (λ meant. if_value meant go') e ∙ by meant
  where
    by : (meant : Meaning) → if_value meant go' ≡ if_value meant go
    by (Value value) = h value
    by Failed = refl
    by Wide = refl
    by Out = refl

-- Another module has all that is named in this one.
pub record Extends (m other : Module) : Type 0 where
  pub constants : (name : List ℕ) → is_among name (constant_names m.constants) ≡ true → constant_named name other.constants ≡ constant_named name m.constants
  pub functions : (name : List ℕ) → is_among name (definition_names m.functions) ≡ true → definition_named name other.functions ≡ definition_named name m.functions
  pub inlines : other.inlines ≡ m.inlines
  pub bodies : (params body : Form) (e : Expression) → IsExpression (module_scope m params) body e → IsExpression (module_scope other params) body e

abbrev pub AllBound : Module → List Definition → Type 0
AllBound m definitions = AllByRecursion (λ d. IsBound m d.params d.body) definitions

-- What is handed on means the same.
abbrev pub MeanAlike : Module → Means → Means → Type 0
MeanAlike m further further' = (e : Expression) (env : Environment Tree) → IsSound (scope_with m (names_in env)) e → StandSound m env → further' e env ≡ further e env

module _ (m other : Module) (extends : Extends m other) (are : AllBound m m.functions) (inlines_are : AllBound m m.inlines) where
  module _ (n : ℕ) (further further' : Means) (alike : MeanAlike m further further') where
    name_alike : (name : List ℕ) (env : Environment Tree) → is_among name (names_in env ++ constant_names m.constants) ≡ true → (x : Binding Tree) → binding_of name env ≡ x → BoundSound m x →
        name_meaning other further' name x ≡ name_meaning m further name x
    name_alike name env among (ToFound tree) is h = refl
    name_alike name env among ToNoStep is h = refl
    name_alike name env among (ToExpression e there) is h = alike e there h.0 h.1
    name_alike name env among ToNothing is h =
        ap constant_meaning (extends.constants name (among_behind name (names_in env) (constant_names m.constants) among (nothing_bound name env is)))

    body_alike : (params body : Form) → IsBound m params body → (env : Environment Tree) → names_in env ≡ parameter_names params → StandSound m env →
        body_meaning further' (body_of other params body) env ≡ body_meaning further (body_of m params body) env
    body_alike params body (e, h) env names sound =
        ap (λ read. body_meaning further' read env) (extends.bodies params body e h)
        ∙ alike e env (subst (λ names. IsSound (scope_with m names) e) (sym names) (is_sound (module_scope m params) body e h)) sound
        ∙ ap (λ read. body_meaning further read env) (sym h)

    function_alike : (values : List Tree) (name : List ℕ) (f : Option Definition) → definition_named name m.functions ≡ f → function_call other further' f values ≡ function_call m further f values
    function_alike values name None is = refl
    function_alike values name (Some f) is =
        body_alike f.params f.body (found_has (λ d. d.name) name (λ d. IsBound m d.params d.body) m.functions f are is)
        (function_environment f.params (list_tree values)) (bound_names (parameters f.params) (λ path. tree_at path (list_tree values))) (trees_sound m (parameters f.params) (list_tree values))

    module _ (env : Environment Tree) (stand : StandSound m env) where
      abbrev here : Scope
      here = scope_with m (names_in env)

      inline_alike : (operands : Operands) → AreSound here operands → (name : List ℕ) (f : Option Definition) → definition_named name m.inlines ≡ f → inline_call other further' operands env f ≡ inline_call m further operands env f
      inline_alike operands sound name None is = refl
      inline_alike operands sound name (Some f) is =
          body_alike f.params f.body (found_has (λ d. d.name) name (λ d. IsBound m d.params d.body) m.inlines f inlines_are is)
          (inline_environment f.params operands env) (standing_names (parameters f.params) operands env) (expressions_sound m (parameters f.params) operands env sound stand)

      one_of : (test : Bool) (x y x' y' : Meaning) → x ≡ x' → y ≡ y' → cond test y x ≡ cond test y' x'
      one_of true x y x' y' e h = h
      one_of false x y x' y' e h = e

      mutual
        expression_alike : (e : Expression) → IsSound here e → expression_meaning other n further' e env ≡ expression_meaning m n further e env
        expression_alike (Literal tree) h = refl
        expression_alike (Name name) h = name_alike name env h (binding_of name env) refl (binding_sound m name env stand)
        expression_alike (Choice condition second third) h =
            if_value_same (expression_meaning m n further condition env) (expression_meaning other n further' condition env) _ _ (expression_alike condition h.0)
            (λ test. one_of (is_nil test) _ _ _ _ (expression_alike second h.1) (expression_alike third h.2))
        expression_alike (Listing operands) h = operands_alike operands h _ _ (λ values. refl)
        expression_alike (Operation code operands) h = operands_alike operands h.1 _ _ (λ values. refl)
        expression_alike (FunctionCall name operands) h =
            operands_alike operands h.1 _ _ (λ values. ap (λ f. function_call other further' f values) (extends.functions name h.0) ∙ function_alike values name (definition_named name m.functions) refl)
        expression_alike (InlineCall name operands) h =
            ap (λ inlines. inline_call other further' operands env (definition_named name inlines)) extends.inlines ∙ inline_alike operands h.1 name (definition_named name m.inlines) refl
        expression_alike (Filled template) h = template_alike template h

        operands_alike : (operands : Operands) → AreSound here operands → (go go' : List Tree → Meaning) → ((values : List Tree) → go' values ≡ go values) →
            operands_meaning other n further' operands env go' ≡ operands_meaning m n further operands env go
        operands_alike NoMore h go go' same = same []
        operands_alike (Operand first more) h go go' same =
            operands_alike more h.1 _ _ (λ values. if_value_same (expression_meaning m n further first env) (expression_meaning other n further' first env) _ _ (expression_alike first h.0) (λ value. same (value ∷ values)))

        template_alike : (t : Template) → IsSoundTemplate here t → template_meaning other n further' t env ≡ template_meaning m n further t env
        template_alike (Plain tree) h = refl
        template_alike (Both first rest) h =
            if_value_same (template_meaning m n further rest env) (template_meaning other n further' rest env) _ _ (template_alike rest h.1)
            (λ later. if_value_same (template_meaning m n further first env) (template_meaning other n further' first env) _ _ (template_alike first h.0) (λ earlier. refl))
        template_alike (Unquoted e) h = expression_alike e h

  pub within_alike : (n : ℕ) → MeanAlike m (meaning_within m n) (meaning_within other n)
  within_alike zero e env sound stand = expression_alike zero (λ e env. Out) (λ e env. Out) (λ e env sound stand. refl) env stand e sound
  within_alike (suc n) e env sound stand = expression_alike (suc n) (meaning_within m n) (meaning_within other n) (within_alike n) env stand e sound

  -- So does a body.
  pub bodies_alike : (n : ℕ) (params body : Form) → IsBound m params body → (argument : Tree) →
      body_meaning (meaning_within other n) (body_of other params body) (function_environment params argument) ≡ body_meaning (meaning_within m n) (body_of m params body) (function_environment params argument)
  bodies_alike n params body bound argument =
      body_alike n (meaning_within m n) (meaning_within other n) (within_alike n) params body bound
      (function_environment params argument) (bound_names (parameters params) (λ path. tree_at path argument)) (trees_sound m (parameters params) argument)
