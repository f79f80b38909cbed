-- The code that this project makes of a module. Source: this project's own; it is made so that it agrees with what the
-- module means.
use Rattle.std.specs.Prelude.{ℕ, List, [], ◌∷◌, map, Option, Some, None, Ok, Err}
use Rattle.clvm_spec.specs.Tree.{Tree}
use Rattle.lisp_spec.specs.Modules as modules
use Rattle.lisp_spec.specs.Modules.{Module, Definition, definition_named, constant_named}
use Rattle.lisp_spec.specs.ModuleFaults.{Judged}
use Rattle.lisp_spec.specs.Parameters.{Side}
use Rattle.lisp_spec.specs.Expressions.{Expression, Literal, Name, Choice, Listing, Operation, FunctionCall, InlineCall, Filled, Operands, NoMore, Operand, Template, Plain, Both, Unquoted}
use Rattle.lisp_spec.specs.Scopes.{body_of}
use Rattle.lisp_spec.specs.Environments.{Binding, ToFound, ToNoStep, ToExpression, ToNothing, binding_of, inline_environment}
use Rattle.lisp_code.specs.Names.{Names, function_names}
use Rattle.lisp_code.specs.Codes.{Code, Constant, Path, fails, pair_of, list_of, operation_of, choice_of, call_of}
use Rattle.lisp_code.specs.Frames.{Function, whole_of}

abbrev pub constant_code : Option modules.Constant → Code
constant_code None = fails
constant_code (Some constant) = Constant constant.value

-- ---- expressions

-- the code of an expression, where names stand for these
abbrev pub Codes : Type 0
Codes = Expression → Names → Code

-- A symbol is a parameter, else a constant. An inline's parameter is replaced by the code of what it stands for.
abbrev pub name_code : Module → Codes → List ℕ → Binding (List Side) → Code
name_code source further name (ToFound path) = Path path
name_code source further name ToNoStep = fails
name_code source further name (ToExpression e there) = further e there
name_code source further name ToNothing = constant_code (constant_named name source.constants)

-- Each body of a module without fault is an expression.
abbrev pub body_code : Codes → Judged Expression → Names → Code
body_code code (Ok e) names = code e names
body_code code (Err first) names = fails

-- A call of an inline is replaced by the code of its body. A module without fault calls no other.
abbrev pub inline_code : Module → Codes → Operands → (caller : Names) → Option Definition → Code
inline_code source further operands caller None = fails
inline_code source further operands caller (Some f) = body_code further (body_of source f.params f.body) (inline_environment f.params operands caller)

-- The codes of the bodies of inlines, and of what their parameters stand for, are given.
module _ (source : Module) (further : Codes) where
  abbrev mutual
    pub expression_code : Expression → Names → Code
    expression_code (Literal tree) names = Constant tree
    expression_code (Name name) names = name_code source further name (binding_of name names)
    expression_code (Choice condition second third) names = choice_of (expression_code condition names) (expression_code second names) (expression_code third names)
    expression_code (Listing operands) names = list_of (operand_codes operands names)
    expression_code (Operation code operands) names = operation_of code (operand_codes operands names)
    expression_code (FunctionCall name operands) names = call_of name (operand_codes operands names)
    expression_code (InlineCall name operands) names = inline_code source further operands names (definition_named name source.inlines)
    expression_code (Filled template) names = template_code template names

    pub operand_codes : Operands → Names → List Code
    operand_codes NoMore names = []
    operand_codes (Operand first more) names = expression_code first names ∷ operand_codes more names

    pub template_code : Template → Names → Code
    template_code (Plain tree) names = Constant tree
    template_code (Both first rest) names = pair_of (template_code first names) (template_code rest names)
    template_code (Unquoted e) names = expression_code e names

-- ---- a module

abbrev pub function_of : Module → Codes → Definition → Function
function_of source code f =
    record { name = f.name; code = body_code code (body_of source f.params f.body) (function_names f.params) }

abbrev pub whole_code : Module → Codes → Tree
whole_code source code =
    whole_of (body_code code (body_of source source.params source.body) (function_names source.params)) (map (function_of source code) source.functions)
