-- What the body of a macro gives, from the forms of its operands. Source: Chialisp reference; which operators work on
-- forms, the turns, the faults and their order, and the places of what is made, are this project's own.
use Rattle.std.specs.Prelude.{ℕ, zero, suc, ◌==◌, Bool, true, false, List, [], ◌∷◌, length, Option, Some, None, find, bytes_eq, codes, if◌then◌else◌}
use Rattle.lisp_spec.specs.Forms.{Form, Atom, Symbol, Pair, Place, is_pair}
use Rattle.lisp_read.specs.FormLists.{form_elements, form_list, is_empty, is_symbol}
use Rattle.lisp_spec.specs.Heads.{is_q, is_qq, is_if}
use Rattle.lisp_spec.specs.Parameters.{Side, ToFirst, ToRest, path_of}
use Rattle.lisp_spec.specs.Macros.{MacroFault, TurnsSpent, BadMacro}

-- ---- a call, and its parameters

-- A body is evaluated for one call: the macro's parameters stand for parts of the list of the operand forms. What the
-- operators make has the place at which the faults of the call stand.
pub record MacroCall : Type 0 where
  pub params : Form
  pub operands : Form
  pub place : Place

-- what stands at a path of a form, or none where a step leads into what is no pair
abbrev pub form_at : List Side → Form → Option Form
form_at [] form = Some form
form_at (side ∷ path) (Atom at bytes) = None
form_at (side ∷ path) (Symbol at name) = None
form_at (ToFirst ∷ path) (Pair at first rest) = form_at path first
form_at (ToRest ∷ path) (Pair at first rest) = form_at path rest

-- A symbol that is a parameter is its form, another is itself.
abbrev pub parameter_or : Form → Option (List Side) → Form → Option Form
parameter_or symbol None operands = Some symbol
parameter_or symbol (Some path) operands = form_at path operands

-- ---- operators on forms

-- The empty atom is false, every other form true.
abbrev pub chosen : Form → Form → Form → Form
chosen condition second third = if is_empty condition then third else second

-- 1 for what holds, else the empty atom
abbrev pub flag : Place → Bool → Form
flag place b = if b then Atom place (1 ∷ []) else Atom place []

-- both atoms with the same bytes, or both the same symbol
abbrev pub is_same : Form → Form → Bool
is_same (Atom at bytes) (Atom place others) = bytes_eq bytes others
is_same (Symbol at name) (Symbol place other) = bytes_eq name other
is_same a b = false

-- What an operator gives for as many values as it takes, by the place of what it makes. There is none where it steps
-- into what is no pair.
abbrev pub OnForms : Type 0
OnForms = Place → List Form → Option Form

abbrev pub first_of_form : OnForms
first_of_form place (Pair at first rest ∷ []) = Some first
first_of_form place values = None

abbrev pub rest_of_form : OnForms
rest_of_form place (Pair at first rest ∷ []) = Some rest
rest_of_form place values = None

abbrev pub pair_of_forms : OnForms
pair_of_forms place (first ∷ rest ∷ []) = Some (Pair place first rest)
pair_of_forms place values = None

abbrev pub pair_flag : OnForms
pair_flag place (form ∷ []) = Some (flag place (is_pair form))
pair_flag place values = None

abbrev pub choice_of_forms : OnForms
choice_of_forms place (condition ∷ second ∷ third ∷ []) = Some (chosen condition second third)
choice_of_forms place values = None

abbrev pub same_flag : OnForms
same_flag place (a ∷ b ∷ []) = Some (flag place (is_same a b))
same_flag place values = None

abbrev pub list_of_forms : OnForms
list_of_forms place values = Some (form_list place values)

-- Without a number any number of operands goes.
pub record FormOperator : Type 0 where
  pub name : List ℕ
  pub count : Option ℕ
  pub applied : OnForms

abbrev pub form_operator : List ℕ → Option ℕ → OnForms → FormOperator
form_operator name count applied = record { name = name; count = count; applied = applied }

abbrev pub form_operators : List FormOperator
form_operators =
    form_operator (codes "f") (Some 1) first_of_form
    ∷ form_operator (codes "r") (Some 1) rest_of_form
    ∷ form_operator (codes "c") (Some 2) pair_of_forms
    ∷ form_operator (codes "l") (Some 1) pair_flag
    ∷ form_operator (codes "i") (Some 3) choice_of_forms
    ∷ form_operator (codes "=") (Some 2) same_flag
    ∷ form_operator (codes "list") None list_of_forms
    ∷ []

-- ---- heads

-- what a symbol is as the head of an expression of a body
pub data BodyHead : Type 0 where
  -- `q`: what follows the head is the value.
  Quotation : BodyHead
  -- `qq`: its one operand is a template.
  TemplateOf : BodyHead
  -- `if`: one of two expressions is evaluated.
  Branches : BodyHead
  -- an operator on forms
  Operation : FormOperator → BodyHead
  -- No body has another head.
  NoHead : BodyHead

abbrev pub operation_head : Option FormOperator → BodyHead
operation_head None = NoHead
operation_head (Some operator) = Operation operator

unfoldable pub body_head : List ℕ → BodyHead
body_head name =
    if is_q name then Quotation
    else if is_qq name then TemplateOf
    else if is_if name then Branches
    else operation_head (find (λ row. bytes_eq row.name name) form_operators)

-- ---- evaluation

-- a form, or the first fault, each with the turns that are left
pub data BodyValue : Type 0 where
  Gives : (form : Form) (left : ℕ) → BodyValue
  Stops : (fault : MacroFault) (left : ℕ) → BodyValue

-- goes on from what is given
abbrev pub if_given : BodyValue → (Form → ℕ → BodyValue) → BodyValue
if_given (Gives form left) go = go form left
if_given (Stops fault left) go = Stops fault left

-- A step into what is no pair is a bad macro.
abbrev pub unless_astray : Option Form → ℕ → BodyValue
unless_astray None left = Stops BadMacro left
unless_astray (Some form) left = Gives form left

-- an expression, and the turns that are left when its evaluation begins
abbrev pub BodyEvaluator : Type 0
BodyEvaluator = Form → ℕ → BodyValue

-- the operands' values, from the last to the first
abbrev pub operand_values : BodyEvaluator → List Form → ℕ → (List Form → ℕ → BodyValue) → BodyValue
operand_values evaluate [] left go = go [] left
operand_values evaluate (operand ∷ operands) left go =
    operand_values evaluate operands left (λ values after. if_given (evaluate operand after) (λ value last. go (value ∷ values) last))

abbrev pub takes : Option ℕ → ℕ → Bool
takes None n = true
takes (Some count) n = n == count

-- An operator's operands are counted before they are evaluated.
abbrev pub operation_value : BodyEvaluator → Place → FormOperator → Option (List Form) → ℕ → BodyValue
operation_value evaluate place operator None left = Stops BadMacro left
operation_value evaluate place operator (Some operands) left =
    if takes operator.count (length operands)
    then operand_values evaluate operands left (λ values after. unless_astray (operator.applied place values) after)
    else Stops BadMacro left

-- `if` evaluates its first operand, and then one of the two others.
abbrev pub branch_value : BodyEvaluator → Option (List Form) → ℕ → BodyValue
branch_value evaluate (Some (condition ∷ second ∷ third ∷ [])) left = if_given (evaluate condition left) (λ value after. evaluate (chosen value second third) after)
branch_value evaluate operands left = Stops BadMacro left

-- an expression that is the one operand of its head
abbrev pub one_value : BodyEvaluator → Option (List Form) → ℕ → BodyValue
one_value evaluate (Some (operand ∷ [])) left = evaluate operand left
one_value evaluate operands left = Stops BadMacro left

-- A template is itself, but for each pair of it that has the head `unquote`: that is the value of its one operand. The
-- last is evaluated first.
abbrev pub template_value : BodyEvaluator → Form → ℕ → BodyValue
template_value evaluate (Atom at bytes) left = Gives (Atom at bytes) left
template_value evaluate (Symbol at name) left = Gives (Symbol at name) left
template_value evaluate (Pair at first rest) left =
    if is_symbol (codes "unquote") first then one_value evaluate (form_elements rest) left
    else if_given (template_value evaluate rest left) (λ behind after.
    if_given (template_value evaluate first after) (λ front last. Gives (Pair at front behind) last))

abbrev pub headed_value : BodyEvaluator → Place → BodyHead → Form → ℕ → BodyValue
headed_value evaluate place Quotation rest left = Gives rest left
headed_value evaluate place TemplateOf rest left = one_value (template_value evaluate) (form_elements rest) left
headed_value evaluate place Branches rest left = branch_value evaluate (form_elements rest) left
headed_value evaluate place (Operation operator) rest left = operation_value evaluate place operator (form_elements rest) left
headed_value evaluate place NoHead rest left = Stops BadMacro left

-- An expression, once its turn is taken. Its head and the number of its operands come before the operands.
abbrev pub expression_value : BodyEvaluator → MacroCall → Form → ℕ → BodyValue
expression_value evaluate call (Atom at bytes) left = Gives (Atom at bytes) left
expression_value evaluate call (Symbol at name) left = unless_astray (parameter_or (Symbol at name) (path_of name call.params) call.operands) left
expression_value evaluate call (Pair at (Symbol head name) rest) left = headed_value evaluate call.place (body_head name) rest left
expression_value evaluate call (Pair at head rest) left = Stops BadMacro left

-- The turn of an expression is taken when its evaluation begins.
abbrev pub with_turn : ℕ → (ℕ → BodyValue) → BodyValue
with_turn zero go = Stops TurnsSpent 0
with_turn (suc left) go = go left

abbrev pub valued_by : BodyEvaluator → MacroCall → Form → ℕ → BodyValue
valued_by evaluate call expression turns = with_turn turns (expression_value evaluate call expression)

-- Each expression takes a turn, so none stands within more others than there are turns, and the first number only
-- bounds the recursion.
abbrev pub valued_within : ℕ → MacroCall → Form → ℕ → BodyValue
valued_within zero call expression turns = Stops TurnsSpent 0
valued_within (suc bound) call expression turns = valued_by (valued_within bound call) call expression turns

unfoldable pub body_value : MacroCall → Form → ℕ → BodyValue
body_value call expression turns = valued_within turns call expression turns
