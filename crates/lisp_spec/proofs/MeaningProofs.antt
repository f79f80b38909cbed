-- The laws of the meaning on its count.
use Rattle.std.proofs.Common.{◌≡◌, ℕ, zero, suc, ◌==◌, ◌≤◌, Bool, true, false, cond, List, [], ◌∷◌, Option, Some, None, Ok, Err, refl, ⊎_elim, sym, ap, subst, arith}
use Rattle.std.proofs.lemmas.Bool.{cases_lt}
use Rattle.clvm_spec.specs.Tree.{Tree, Pair, list_tree}
use Rattle.clvm_spec.specs.Outcomes as run
use Rattle.clvm_spec.specs.Outcomes.{Outcome}
use Rattle.clvm_spec.specs.Operators.{is_nil}
use Rattle.clvm_spec.specs.OperatorTable.{applied}
use Rattle.clvm_spec.specs.Evaluation.{run_outcome}
use Rattle.clvm_spec.proofs.SpendingLaws.{Covers, covers, covered}
use Rattle.clvm_spec.proofs.Steps.{done_law, failures_law, wide_law}
use Rattle.lisp_spec.specs.Modules.{Module, Definition, definition_named, constant_named}
use Rattle.lisp_spec.specs.ModuleFaults.{Judged}
use Rattle.lisp_spec.specs.Expressions.{Expression, Literal, Name, Choice, Listing, Operation, FunctionCall, InlineCall, Filled, Operands, NoMore, Operand, Template, Plain, Both, Unquoted}
use Rattle.lisp_spec.specs.Scopes.{body_of}
use Rattle.lisp_spec.specs.Environments.{Environment, Binding, ToFound, ToNoStep, ToExpression, ToNothing, binding_of, function_environment, inline_environment}
use Rattle.lisp_spec.specs.Meaning.{Meaning, Value, Failed, Wide, Out, Means, if_value, operator_meaning, run_meaning, all_counts, run_values, operate, constant_meaning, name_meaning, body_meaning, function_call, inline_call, expression_meaning, operands_meaning, template_meaning, meaning_within, meaning}
use Rattle.lisp_spec.specs.MeaningLaws.{LargerCountKeepsValues, LargerCountKeepsFailures, LargerCountKeepsWide, CountsGiveTheSame}

-- the same, or anything where the count didn't suffice
pub data Refines : Meaning → Meaning → Type 0 where
  out : (m : Meaning) → Refines Out m
  same : (m : Meaning) → Refines m m

pub refines_equal : (a b : Meaning) → a ≡ b → Refines a b
refines_equal a b e = subst (Refines a) e (same a)

pub refines_then : (a b : Meaning) (go go' : Tree → Meaning) → Refines a b → ((value : Tree) → Refines (go value) (go' value)) → Refines (if_value a go) (if_value b go')
refines_then a b go go' (out m) goes = out (if_value m go')
refines_then a b go go' (same (Value value)) goes = goes value
refines_then a b go go' (same Failed) goes = same Failed
refines_then a b go go' (same Wide) goes = same Wide
refines_then a b go go' (same Out) goes = same Out

pub refines_cond : (b : Bool) (x x' y y' : Meaning) → Refines x x' → Refines y y' → Refines (cond b x y) (cond b x' y')
refines_cond true x x' y y' p q = p
refines_cond false x x' y y' p q = q

module _ (n m : ℕ) (more : n ≤ m) where
  refines_outcome : (program argument : Tree) (o : Outcome) → run_outcome program argument (all_counts n) ≡ o → Refines (run_meaning o) (run_meaning (run_outcome program argument (all_counts m)))
  refines_outcome program argument (run.Done value left) e =
      let all = done_law program argument 0 (all_counts n) left value e in
      let before = covers (all_counts n) all.0 all.1 in
      let after : Covers (all_counts m) all.0 = record { cost = omega (arith, before.cost); pairs = omega (arith, before.pairs); bytes = omega (arith, before.bytes) } in
      refines_equal _ _ (sym (ap run_meaning (all.3 (all_counts m) (covered (all_counts m) all.0 after) more)))
  refines_outcome program argument (run.Failed why place) e =
      refines_equal _ _ (sym (ap run_meaning (failures_law program argument 0 (all_counts n) (all_counts m) why place (record { cost = more; pairs = more; bytes = more; depth = more }) e)))
  refines_outcome program argument (run.Spent which) e = out _
  refines_outcome program argument run.Wide e =
      refines_equal _ _ (sym (ap run_meaning (wide_law program argument 0 (all_counts n) (all_counts m) (record { cost = more; pairs = more; bytes = more; depth = more }) e)))

  pub refines_run : (values : List Tree) → Refines (run_values n values) (run_values m values)
  refines_run [] = same Failed
  refines_run (program ∷ []) = same Failed
  refines_run (program ∷ argument ∷ []) = refines_outcome program argument (run_outcome program argument (all_counts n)) refl
  refines_run (a ∷ b ∷ c ∷ values) = same Failed

  pub refines_operate : (code : ℕ) (values : List Tree) → Refines (operate n code values) (operate m code values)
  refines_operate code values = refines_cond (code == 2) _ _ _ _ (refines_run values) (same (operator_meaning (applied (code ∷ []) values)))

module _ (source : Module) (n m : ℕ) (more : n ≤ m) (further further' : Means) (goes : (e : Expression) (env : Environment Tree) → Refines (further e env) (further' e env)) where
  refines_name : (name : List ℕ) (binding : Binding Tree) → Refines (name_meaning source further name binding) (name_meaning source further' name binding)
  refines_name name (ToFound tree) = same (Value tree)
  refines_name name ToNoStep = same Failed
  refines_name name (ToExpression e there) = goes e there
  refines_name name ToNothing = same (constant_meaning (constant_named name source.constants))

  pub refines_body : (body : Judged Expression) (env : Environment Tree) → Refines (body_meaning further body env) (body_meaning further' body env)
  refines_body (Ok e) env = goes e env
  refines_body (Err first) env = same Failed

  refines_function : (f : Option Definition) (values : List Tree) → Refines (function_call source further f values) (function_call source further' f values)
  refines_function None values = same Failed
  refines_function (Some f) values = refines_body (body_of source f.params f.body) (function_environment f.params (list_tree values))

  refines_inline : (operands : Operands) (env : Environment Tree) (f : Option Definition) → Refines (inline_call source further operands env f) (inline_call source further' operands env f)
  refines_inline operands env None = same Failed
  refines_inline operands env (Some f) = refines_body (body_of source f.params f.body) (inline_environment f.params operands env)

  mutual
    pub refines_expression : (e : Expression) (env : Environment Tree) → Refines (expression_meaning source n further e env) (expression_meaning source m further' e env)
    refines_expression (Literal tree) env = same (Value tree)
    refines_expression (Name name) env = refines_name name (binding_of name env)
    refines_expression (Choice condition second third) env =
        refines_then _ _ _ _ (refines_expression condition env) (λ test. refines_cond (is_nil test) _ _ _ _ (refines_expression third env) (refines_expression second env))
    refines_expression (Listing operands) env = refines_operands operands env _ _ (λ values. same (Value (list_tree values)))
    refines_expression (Operation code operands) env = refines_operands operands env _ _ (refines_operate n m more code)
    refines_expression (FunctionCall name operands) env = refines_operands operands env _ _ (refines_function (definition_named name source.functions))
    refines_expression (InlineCall name operands) env = refines_inline operands env (definition_named name source.inlines)
    refines_expression (Filled template) env = refines_template template env

    pub refines_operands : (operands : Operands) (env : Environment Tree) (go go' : List Tree → Meaning) → ((values : List Tree) → Refines (go values) (go' values)) →
        Refines (operands_meaning source n further operands env go) (operands_meaning source m further' operands env go')
    refines_operands NoMore env go go' p = p []
    refines_operands (Operand first rest) env go go' p =
        refines_operands rest env _ _ (λ values. refines_then _ _ _ _ (refines_expression first env) (λ value. p (value ∷ values)))

    pub refines_template : (t : Template) (env : Environment Tree) → Refines (template_meaning source n further t env) (template_meaning source m further' t env)
    refines_template (Plain tree) env = same (Value tree)
    refines_template (Both first rest) env = refines_then _ _ _ _ (refines_template rest env) (λ b. refines_then _ _ _ _ (refines_template first env) (λ a. same (Value (Pair a b))))
    refines_template (Unquoted e) env = refines_expression e env

pub larger_within : (source : Module) (n m : ℕ) → n ≤ m → (e : Expression) (env : Environment Tree) → Refines (meaning_within source n e env) (meaning_within source m e env)
larger_within source zero zero more e env = same _
larger_within source zero (suc m) more e env = refines_expression source zero (suc m) more _ _ (λ e env. out _) e env
larger_within source (suc n) zero more e env = absurd (omega arith)
larger_within source (suc n) (suc m) more e env = refines_expression source (suc n) (suc m) more _ _ (larger_within source n m (omega arith)) e env

pub larger_refines : (source : Module) (e : Expression) (env : Environment Tree) (n m : ℕ) → n ≤ m → Refines (meaning source e env n) (meaning source e env m)
unfolding meaning
larger_refines source e env n m more = larger_within source n m more e env

refines_found : (a b found : Meaning) → Refines a b → (found ≡ Out → ⊥) → a ≡ found → b ≡ found
refines_found a b found (out m) not_out e = absurd (not_out (sym e))
refines_found a b found (same m) not_out e = e

pub keeps_values : LargerCountKeepsValues
keeps_values source e env n more value h found = refines_found _ _ (Value value) (larger_refines source e env n more h) (λ e. cc) found

pub keeps_failures : LargerCountKeepsFailures
keeps_failures source e env n more h found = refines_found _ _ Failed (larger_refines source e env n more h) (λ e. cc) found

pub keeps_wide : LargerCountKeepsWide
keeps_wide source e env n more h found = refines_found _ _ Wide (larger_refines source e env n more h) (λ e. cc) found

pub gives_the_same : CountsGiveTheSame
gives_the_same source e env n m a b =
    ⊎_elim (λ h. sym (refines_found _ _ (meaning source e env n) (larger_refines source e env n m (omega (arith, h))) a refl))
    (λ h. refines_found _ _ (meaning source e env m) (larger_refines source e env m n h) b refl) (cases_lt n m)
