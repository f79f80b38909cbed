-- The values of constants. Source: Chialisp reference; that a constant is made of atoms, quoted trees, templates, earlier
-- constants, `if`, `list` and the operators but `a`, and the limit of a value, are this project's own.
use Rattle.std.specs.Prelude.{List, [], ◌∷◌, ◌++◌, Option, Some, None, Ok, Err, nat_lt, if◌then◌else◌}
use Rattle.clvm_spec.specs.Tree.{Tree, Pair, list_tree}
use Rattle.clvm_spec.specs.Outcomes.{Applied, Gives, Fails, TooWide}
use Rattle.clvm_spec.specs.Operators.{is_nil}
use Rattle.clvm_spec.specs.OperatorTable.{applied}
use Rattle.lisp_spec.specs.Forms.{Place}
use Rattle.lisp_spec.specs.Modules.{Constant, constant_named, constant_names}
use Rattle.lisp_spec.specs.Weights.{tree_weight, weight_limit}
use Rattle.lisp_spec.specs.ModuleFaults.{ConstantFails, TooLarge, fault, Judged, ◌>>=◌}
use Rattle.lisp_spec.specs.Definitions.{Written}
use Rattle.lisp_spec.specs.Expressions.{Expression, Literal, Name, Choice, Listing, Operation, FunctionCall, InlineCall, Filled, Operands, NoMore, Operand, Template, Plain, Both, Unquoted, expression_of}
use Rattle.lisp_spec.specs.Scopes.{constant_scope}

-- All faults of a constant stand at its definition.
abbrev pub fails : Place → Judged Tree
fails place = Err (fault ConstantFails place)

-- No value that is met in a constant is past the limit.
abbrev pub met : Place → Tree → Judged Tree
met place value = if nat_lt weight_limit (tree_weight value) then Err (fault TooLarge place) else Ok value

-- An operator that fails, or is Wide, has no value.
abbrev pub result_value : Place → Applied → Judged Tree
result_value place (Gives value cost pairs bytes) = met place value
result_value place (Fails why) = fails place
result_value place TooWide = fails place

abbrev pub named_value : Place → Option Constant → Judged Tree
named_value place None = fails place
named_value place (Some c) = met place c.value

module _ (place : Place) (earlier : List Constant) where
  abbrev mutual
    -- No function or inline may be named in a constant.
    pub expression_value : Expression → Judged Tree
    expression_value (Literal tree) = met place tree
    expression_value (Name name) = named_value place (constant_named name earlier)
    expression_value (Choice condition second third) =
        expression_value condition >>= λ test. if is_nil test then expression_value third else expression_value second
    expression_value (Listing operands) = operand_values operands >>= λ values. met place (list_tree values)
    expression_value (Operation code operands) = operand_values operands >>= λ values. result_value place (applied (code ∷ []) values)
    expression_value (FunctionCall name operands) = fails place
    expression_value (InlineCall name operands) = fails place
    expression_value (Filled template) = template_value template >>= met place

    -- The operands are evaluated from the last to the first, and so is what stands under `unquote`.
    pub operand_values : Operands → Judged (List Tree)
    operand_values NoMore = Ok []
    operand_values (Operand first more) = operand_values more >>= λ values. expression_value first >>= λ value. Ok (value ∷ values)

    pub template_value : Template → Judged Tree
    template_value (Plain tree) = Ok tree
    template_value (Both first rest) = template_value rest >>= λ b. template_value first >>= λ a. Ok (Pair a b)
    template_value (Unquoted e) = expression_value e

-- A constant has the value of its expression, in which earlier ones may stand.
abbrev pub constant_value : List Constant → Written → Judged Tree
constant_value earlier d = expression_of d.body (constant_scope (constant_names earlier)) >>= expression_value d.place earlier

abbrev pub with_constant : Written → Tree → List Constant → List Constant
with_constant d value earlier = earlier ++ record { name = d.name; value = value } ∷ []

abbrev pub constants_after : List Constant → List Written → Judged (List Constant)
constants_after earlier [] = Ok earlier
constants_after earlier (d ∷ definitions) = constant_value earlier d >>= λ value. constants_after (with_constant d value earlier) definitions
