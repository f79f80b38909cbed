-- Which inlines reach themselves. Source: this project's own.
use Rattle.std.specs.Prelude.{ℕ, zero, suc, Bool, false, ◌||◌, List, [], ◌∷◌, ◌++◌, length, Option, Some, None, Ok, Err, bytes_eq}
use Rattle.std.specs.List.{list_any}
use Rattle.lisp_spec.specs.Modules.{Definition, Module, definition_named}
use Rattle.lisp_spec.specs.ModuleFaults.{Judged}
use Rattle.lisp_spec.specs.Expressions.{Expression, Literal, Name, Choice, Listing, Operation, FunctionCall, InlineCall, Filled, Operands, NoMore, Operand, Template, Plain, Both, Unquoted}
use Rattle.lisp_spec.specs.Scopes.{body_of}

-- the names of the inlines that are called in an expression, whether the calls are evaluated or not
abbrev mutual
  pub inlines_called : Expression → List (List ℕ)
  inlines_called (Literal tree) = []
  inlines_called (Name name) = []
  inlines_called (Choice condition second third) = inlines_called condition ++ (inlines_called second ++ inlines_called third)
  inlines_called (Listing operands) = called_by_operands operands
  inlines_called (Operation code operands) = called_by_operands operands
  inlines_called (FunctionCall name operands) = called_by_operands operands
  inlines_called (InlineCall name operands) = name ∷ called_by_operands operands
  inlines_called (Filled template) = called_by_template template

  pub called_by_operands : Operands → List (List ℕ)
  called_by_operands NoMore = []
  called_by_operands (Operand first more) = inlines_called first ++ called_by_operands more

  pub called_by_template : Template → List (List ℕ)
  called_by_template (Plain tree) = []
  called_by_template (Both first rest) = called_by_template first ++ called_by_template rest
  called_by_template (Unquoted e) = inlines_called e

abbrev pub called_by_body : Judged Expression → List (List ℕ)
called_by_body (Ok e) = inlines_called e
called_by_body (Err first) = []

-- which inlines an inline calls; a name that no inline has calls none
abbrev pub calls_of : Module → Option Definition → List (List ℕ)
calls_of m None = []
calls_of m (Some inline) = called_by_body (body_of m inline.params inline.body)

-- whether an inline reaches a name by at most so many calls, each of them in the body of an inline
abbrev pub reaches_within : ℕ → Module → List ℕ → List ℕ → Bool
reaches_within zero m from name = false
reaches_within (suc calls) m from name =
    list_any (λ called. bytes_eq called name || reaches_within calls m called name) (calls_of m (definition_named from m.inlines))

-- Who reaches a name does so by no more calls than there are inlines.
abbrev pub reaches_itself : Module → List ℕ → Bool
reaches_itself m name = reaches_within (length m.inlines) m name name
