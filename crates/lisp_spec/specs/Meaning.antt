-- What the source of a module means, without any code. Source: Chialisp reference; the order of evaluation, inlines,
-- templates, and that a number past 128 bits is Wide, are this project's own.
use Rattle.std.specs.Prelude.{ℕ, zero, suc, ◌==◌, List, [], ◌∷◌, Option, Some, None, Ok, Err, if◌then◌else◌}
use Rattle.clvm_spec.specs.declared.fuel.Fuel.{Fuel}
use Rattle.clvm_spec.specs.Tree.{Tree, Pair, list_tree}
use Rattle.clvm_spec.specs.Outcomes as run
use Rattle.clvm_spec.specs.Outcomes.{Applied, Gives, Fails, TooWide, Outcome}
use Rattle.clvm_spec.specs.Operators.{is_nil}
use Rattle.clvm_spec.specs.OperatorTable.{applied}
use Rattle.clvm_spec.specs.Evaluation.{run_outcome}
use Rattle.lisp_spec.specs.Modules.{Module, Definition, Constant, definition_named, constant_named}
use Rattle.lisp_spec.specs.ModuleFaults.{Judged}
use Rattle.lisp_spec.specs.Expressions.{Expression, Literal, Name, Choice, Listing, Operation, FunctionCall, InlineCall, Filled, Operands, NoMore, Operand, Template, Plain, Both, Unquoted}
use Rattle.lisp_spec.specs.Scopes.{body_of}
use Rattle.lisp_spec.specs.Environments.{Environment, Binding, ToFound, ToNoStep, ToExpression, ToNothing, binding_of, function_environment, inline_environment}

-- How the evaluation of an expression ends, where calls nest no deeper than a count.
pub data Meaning : Type 0 where
  Value : Tree → Meaning
  Failed : Meaning
  -- a number that 128 bits don't hold
  Wide : Meaning
  -- The count doesn't suffice.
  Out : Meaning

-- an expression in its environment
abbrev pub Means : Type 0
Means = Expression → Environment Tree → Meaning

-- goes on from where a part has a value
abbrev pub if_value : Meaning → (Tree → Meaning) → Meaning
if_value (Value value) go = go value
if_value Failed go = Failed
if_value Wide go = Wide
if_value Out go = Out

-- ---- operators

abbrev pub operator_meaning : Applied → Meaning
operator_meaning (Gives value cost pairs bytes) = Value value
operator_meaning (Fails why) = Failed
operator_meaning TooWide = Wide

abbrev pub run_meaning : Outcome → Meaning
run_meaning (run.Done value left) = Value value
run_meaning (run.Failed why place) = Failed
run_meaning (run.Spent which) = Out
run_meaning run.Wide = Wide

abbrev pub all_counts : ℕ → Fuel
all_counts n = record { cost = n; pairs = n; bytes = n; depth = n }

-- `a`: the first value is run on the second.
abbrev pub run_values : ℕ → List Tree → Meaning
run_values n [] = Failed
run_values n (program ∷ []) = Failed
run_values n (program ∷ argument ∷ []) = run_meaning (run_outcome program argument (all_counts n))
run_values n (a ∷ b ∷ c ∷ more) = Failed

abbrev pub operate : ℕ → ℕ → List Tree → Meaning
operate n code values = if code == 2 then run_values n values else operator_meaning (applied (code ∷ []) values)

-- ---- names

-- A symbol is a parameter, else a constant. A module without fault has no other.
abbrev pub constant_meaning : Option Constant → Meaning
constant_meaning None = Failed
constant_meaning (Some constant) = Value constant.value

-- An inline's parameter is evaluated at each use, where its expression stands.
abbrev pub name_meaning : Module → Means → List ℕ → Binding Tree → Meaning
name_meaning source further name (ToFound tree) = Value tree
name_meaning source further name ToNoStep = Failed
name_meaning source further name (ToExpression e there) = further e there
name_meaning source further name ToNothing = constant_meaning (constant_named name source.constants)

-- ---- bodies

-- Each body of a module without fault is an expression.
abbrev pub body_meaning : Means → Judged Expression → Environment Tree → Meaning
body_meaning further (Ok e) env = further e env
body_meaning further (Err first) env = Failed

-- A function's operands are values, those of an inline are not evaluated. A module without fault calls no other.
abbrev pub function_call : Module → Means → Option Definition → List Tree → Meaning
function_call source further None values = Failed
function_call source further (Some f) values = body_meaning further (body_of source f.params f.body) (function_environment f.params (list_tree values))

abbrev pub inline_call : Module → Means → Operands → Environment Tree → Option Definition → Meaning
inline_call source further operands caller None = Failed
inline_call source further operands caller (Some f) = body_meaning further (body_of source f.params f.body) (inline_environment f.params operands caller)

-- ---- expressions

-- `if`: the third operand where the first is nil, else the second
abbrev pub chosen : Tree → (second third : Environment Tree → Meaning) → Environment Tree → Meaning
chosen test second third env = if is_nil test then third env else second env

-- The count is for `a`, and what calls go on with has one less.
module _ (source : Module) (n : ℕ) (further : Means) where
  abbrev mutual
    pub expression_meaning : Expression → Environment Tree → Meaning
    expression_meaning (Literal tree) env = Value tree
    expression_meaning (Name name) env = name_meaning source further name (binding_of name env)
    expression_meaning (Choice condition second third) env =
        if_value (expression_meaning condition env) (λ test. chosen test (expression_meaning second) (expression_meaning third) env)
    expression_meaning (Listing operands) env = operands_meaning operands env (λ values. Value (list_tree values))
    expression_meaning (Operation code operands) env = operands_meaning operands env (operate n code)
    expression_meaning (FunctionCall name operands) env = operands_meaning operands env (function_call source further (definition_named name source.functions))
    expression_meaning (InlineCall name operands) env = inline_call source further operands env (definition_named name source.inlines)
    expression_meaning (Filled template) env = template_meaning template env

    -- The operands are evaluated from the last to the first, each once.
    pub operands_meaning : Operands → Environment Tree → (List Tree → Meaning) → Meaning
    operands_meaning NoMore env go = go []
    operands_meaning (Operand first more) env go =
        operands_meaning more env (λ values. if_value (expression_meaning first env) (λ value. go (value ∷ values)))

    -- Of a pair the later in the text is evaluated first.
    pub template_meaning : Template → Environment Tree → Meaning
    template_meaning (Plain tree) env = Value tree
    template_meaning (Both first rest) env = if_value (template_meaning rest env) (λ b. if_value (template_meaning first env) (λ a. Value (Pair a b)))
    template_meaning (Unquoted e) env = expression_meaning e env

-- Each call of a function or an inline, and each use of an inline's parameter, hands on one less. Where none is left,
-- it isn't made.
abbrev pub meaning_within : Module → ℕ → Means
meaning_within source zero = expression_meaning source zero (λ e env. Out)
meaning_within source (suc n) = expression_meaning source (suc n) (meaning_within source n)

unfoldable pub meaning : Module → Expression → Environment Tree → ℕ → Meaning
meaning source e env n = meaning_within source n e env

-- The module's own parameters are bound to its argument.
abbrev pub module_meaning : Module → (argument : Tree) → ℕ → Meaning
module_meaning source argument n =
    body_meaning (λ e env. meaning source e env n) (body_of source source.params source.body) (function_environment source.params argument)
