-- Expressions: what the forms of a module are, once its macros are expanded, or the first pair that is no expression or
-- symbol that names nothing. Source: Chialisp reference; which heads there are, and the order of faults, are this
-- project's own.
use Rattle.std.specs.Prelude.{ℕ, ◌==◌, Bool, true, false, not, ◌||◌, List, [], Option, Some, None, Ok, Err, is_some, codes, if◌then◌else◌}
use Rattle.clvm_spec.specs.Tree.{Tree}
use Rattle.clvm_spec.specs.Tree as tree
use Rattle.lisp_spec.specs.Forms.{Form, Place}
use Rattle.lisp_spec.specs.Forms as form
use Rattle.lisp_read.specs.FormLists.{form_elements, single, is_symbol}
use Rattle.lisp_spec.specs.declared.head.Head.{Head}
use Rattle.lisp_spec.specs.declared.head.Head.TheVariants.{QuotesRest, QuotesOne, Templates, Unquotes, Chooses, Lists, Operates, Calls}
use Rattle.lisp_spec.specs.Heads.{head_of}
use Rattle.lisp_spec.specs.Quoted.{quoted_form, symbol_tree}
use Rattle.lisp_spec.specs.ModuleFaults.{Unbound, BadForm, Fault, fault, Judged, ◌>>=◌, ◌or◌, unless, expect, is_among}

mutual
  pub data Expression : Type 0 where
    -- an atom, or a quoted tree
    Literal : Tree → Expression
    -- a parameter, else a constant
    Name : (name : List ℕ) → Expression
    -- `if`: the second where the first isn't nil, else the third
    Choice : (condition second third : Expression) → Expression
    -- `list`
    Listing : Operands → Expression
    -- an operator, by its code
    Operation : (code : ℕ) → Operands → Expression
    FunctionCall : (name : List ℕ) → Operands → Expression
    InlineCall : (name : List ℕ) → Operands → Expression
    -- `qq`
    Filled : Template → Expression

  pub data Operands : Type 0 where
    NoMore : Operands
    Operand : (first : Expression) (more : Operands) → Operands

  pub data Template : Type 0 where
    Plain : Tree → Template
    Both : (first rest : Template) → Template
    -- what an `unquote` stands for
    Unquoted : Expression → Template

-- what may be named in an expression
pub record Scope : Type 0 where
  -- parameters and constants
  pub symbols : List (List ℕ)
  pub functions : List (List ℕ)
  pub inlines : List (List ℕ)
  -- whether `a` may be a head
  pub may_run : Bool

-- what is found in a scope, or the first fault
abbrev pub Read : Type 0 → Type 0
Read A = Scope → Judged A

abbrev pub no_form : {A : Type 0} → (pair : Place) → Judged A
no_form pair = Err (fault BadForm pair)

-- A symbol is the name of a parameter or a constant.
abbrev pub named : Scope → Place → List ℕ → Judged Expression
named scope place name = unless (expect (is_among name scope.symbols) Unbound place) (Name name)

abbrev pub quoted : (pair : Place) → Option Form → Judged Expression
quoted pair None = no_form pair
quoted pair (Some operand) = Ok (Literal (quoted_form operand))

-- The operands are a proper list, whatever its head; then comes the head's own fault, then the operands'.
abbrev pub applied : (pair : Place) → Form → Option Fault → Read Operands → (Operands → Expression) → Read Expression
applied pair behind head operands make scope =
    unless (expect (is_some (form_elements behind)) BadForm pair or head) scope
    >>= λ scope. operands scope >>= λ found. Ok (make found)

-- A head that is no name of the language calls an inline or a function.
abbrev pub call : Scope → List ℕ → Operands → Expression
call scope name operands = if is_among name scope.inlines then InlineCall name operands else FunctionCall name operands

-- What a pair is, by its head.
abbrev pub headed : (pair place : Place) → List ℕ → Form → Read Operands → (choice template : Place → Read Expression) → Scope → Head → Judged Expression
headed pair place name behind operands choice template scope QuotesRest = Ok (Literal (quoted_form behind))
headed pair place name behind operands choice template scope QuotesOne = quoted pair (single behind)
headed pair place name behind operands choice template scope Templates = template pair scope
headed pair place name behind operands choice template scope Unquotes = no_form pair
headed pair place name behind operands choice template scope Chooses = choice pair scope
headed pair place name behind operands choice template scope Lists = applied pair behind None operands Listing scope
headed pair place name behind operands choice template scope (Operates code) =
    applied pair behind (expect (scope.may_run || not (code == 2)) Unbound place) operands (Operation code) scope
headed pair place name behind operands choice template scope Calls =
    applied pair behind (expect (is_among name scope.inlines || is_among name scope.functions) Unbound place) operands (call scope name) scope

-- what stands in a template at a pair
abbrev pub filled : Bool → (pair : Place) → (value : Place → Read Expression) → (first rest : Read Template) → Read Template
filled true pair value first rest scope = value pair scope >>= λ e. Ok (Unquoted e)
filled false pair value first rest scope = first scope >>= λ a. rest scope >>= λ b. Ok (Both a b)

-- From a pair to its head to its operands, first to last.
abbrev mutual
  pub expression_of : Form → Read Expression
  expression_of (form.Atom at bytes) scope = Ok (Literal (tree.Atom bytes))
  expression_of (form.Symbol at name) scope = named scope at name
  expression_of (form.Pair at (form.Symbol place name) behind) scope =
      headed at place name behind (operands_of behind) (choice_of behind) (only_template behind) scope (head_of name)
  expression_of (form.Pair at head behind) scope = no_form at

  pub operands_of : Form → Read Operands
  operands_of (form.Pair at first rest) scope = expression_of first scope >>= λ e. operands_of rest scope >>= λ more. Ok (Operand e more)
  operands_of end scope = Ok NoMore

  -- the three operands of `if`
  pub choice_of : Form → Place → Read Expression
  choice_of (form.Pair at condition (form.Pair next second (form.Pair last third (form.Atom end [])))) pair scope =
      expression_of condition scope >>= λ a. expression_of second scope >>= λ b. expression_of third scope >>= λ c. Ok (Choice a b c)
  choice_of other pair scope = no_form pair

  -- the one operand of `qq`
  pub only_template : Form → Place → Read Expression
  only_template (form.Pair at template (form.Atom end [])) pair scope = template_of template scope >>= λ t. Ok (Filled t)
  only_template other pair scope = no_form pair

  -- the one operand of `unquote`
  pub only_expression : Form → Place → Read Expression
  only_expression (form.Pair at e (form.Atom end [])) pair scope = expression_of e scope
  only_expression other pair scope = no_form pair

  pub template_of : Form → Read Template
  template_of (form.Atom at bytes) scope = Ok (Plain (tree.Atom bytes))
  template_of (form.Symbol at name) scope = Ok (Plain (symbol_tree name))
  template_of (form.Pair at first rest) scope =
      filled (is_symbol (codes "unquote") first) at (only_expression rest) (template_of first) (template_of rest) scope
