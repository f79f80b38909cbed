-- The weight of an expression, and the bound of a module. Source: this project's own.
use Rattle.std.specs.Prelude.{ℕ, zero, suc, ◌+◌, ◌*◌, ◌/◌, List, [], ◌∷◌, length, Option, Some, None, Ok, Err, sum_by}
use Rattle.clvm_spec.specs.Tree.{Tree}
use Rattle.lisp_spec.specs.Forms.{Form}
use Rattle.lisp_spec.specs.declared.limits.TheConstants.{UNIT_BYTES, FUNCTIONS_A_BYTE}
use Rattle.lisp_spec.specs.Modules.{Definition, Constant, Module, definition_named, constant_named}
use Rattle.lisp_spec.specs.ModuleFaults.{Judged}
use Rattle.lisp_spec.specs.Parameters.{Side, ToFirst, ToRest, path_of}
use Rattle.lisp_spec.specs.Weights.{tree_weight}
use Rattle.lisp_spec.specs.Expressions.{Expression, Literal, Name, Choice, Listing, Operation, FunctionCall, InlineCall, Filled, Operands, NoMore, Operand, Template, Plain, Both, Unquoted}
use Rattle.lisp_spec.specs.Scopes.{body_of}

-- the weight of what a parameter stands for, by its path
abbrev pub Standing : Type 0
Standing = List Side → ℕ

-- A parameter of a function, or of the module, stands for itself: 1 and the steps of its path.
abbrev pub own : Standing
own path = 1 + length path

-- An atom, a quoted tree and a constant weigh 1 and the weight of the tree.
abbrev pub as_tree : Tree → ℕ
as_tree tree = 1 + tree_weight tree

abbrev pub constant_weight : Option Constant → ℕ
constant_weight None = 1
constant_weight (Some c) = as_tree c.value

abbrev pub name_weight : Standing → Option (List Side) → Option Constant → ℕ
name_weight standing None found = constant_weight found
name_weight standing (Some path) found = standing path

-- the weight of an inline's body, in which its parameters stand for this
abbrev pub BodyWeight : Type 0
BodyWeight = Definition → Standing → ℕ

-- An inline call weighs 1 and its body, in which each parameter weighs what it stands for in the operands.
abbrev pub inline_weight : BodyWeight → Option Definition → Standing → ℕ
inline_weight weight None operands = 1
inline_weight weight (Some inline) operands = 1 + weight inline operands

module _ (weight : BodyWeight) (m : Module) (params : Form) (standing : Standing) where
  abbrev mutual
    pub weighed : Expression → ℕ
    weighed (Literal tree) = as_tree tree
    weighed (Name name) = name_weight standing (path_of name params) (constant_named name m.constants)
    weighed (Choice condition second third) = 1 + (weighed condition + (weighed second + weighed third))
    weighed (Listing operands) = 1 + together operands
    weighed (Operation code operands) = 1 + together operands
    weighed (FunctionCall name operands) = 1 + together operands
    weighed (InlineCall name operands) = inline_weight weight (definition_named name m.inlines) (λ path. weight_at path operands)
    weighed (Filled template) = 1 + filled_weight template

    pub together : Operands → ℕ
    together NoMore = 0
    together (Operand first more) = weighed first + together more

    -- the weight of a template's tree, in which each `unquote` counts as its expression
    pub filled_weight : Template → ℕ
    filled_weight (Plain tree) = tree_weight tree
    filled_weight (Both first rest) = 1 + (filled_weight first + filled_weight rest)
    filled_weight (Unquoted e) = weighed e

    -- What stands at a path of the operands: an operand, inside which each step is an operator; the list of the operands
    -- from there; or nothing, behind the end of the list.
    pub weight_at : List Side → Operands → ℕ
    weight_at path NoMore = 1
    weight_at [] (Operand first more) = 1 + (weighed first + together more)
    weight_at (ToFirst ∷ path) (Operand first more) = length path + weighed first
    weight_at (ToRest ∷ path) (Operand first more) = weight_at path more

-- Each body of a module without fault is an expression.
abbrev pub body_weight : (Expression → ℕ) → Judged Expression → ℕ
body_weight weigh (Ok e) = weigh e
body_weight weigh (Err first) = 0

-- Inlines that don't reach themselves nest no deeper than there are inlines, and the first number only bounds that.
abbrev pub weight_within : ℕ → Module → Form → Standing → Expression → ℕ
weight_within zero m params standing e = 0
weight_within (suc nesting) m params standing e =
    weighed (λ inline inner. body_weight (weight_within nesting m inline.params inner) (body_of m inline.params inline.body)) m params standing e

-- the weight of an expression of a module, with these parameters
unfoldable pub expression_weight : Module → (params body : Form) → ℕ
expression_weight m params body = body_weight (weight_within (suc (length m.inlines)) m params own) (body_of m params body)

abbrev pub definition_weight : Module → Definition → ℕ
definition_weight m d = expression_weight m d.params d.body

-- the weights of the functions and of the body together
abbrev pub code_weight : Module → ℕ
code_weight m = sum_by (definition_weight m) m.functions + expression_weight m m.params m.body

-- `UNIT_BYTES`, and one more for each `FUNCTIONS_A_BYTE` functions, for each unit of the weight of functions and body,
-- and for one more unit.
abbrev pub module_bound : Module → ℕ
module_bound m = (UNIT_BYTES + length m.functions / FUNCTIONS_A_BYTE) * (code_weight m + 1)
