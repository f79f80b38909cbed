-- What may be named where. Source: Chialisp reference; what may stand in a constant is this project's own.
use Rattle.std.specs.Prelude.{◌≡◌, ℕ, List, [], ◌++◌, true, false, Ok}
use Rattle.lisp_spec.specs.Forms.{Form}
use Rattle.lisp_spec.specs.Modules.{Module, definition_names, constant_names}
use Rattle.lisp_spec.specs.Parameters.{parameter_names}
use Rattle.lisp_spec.specs.ModuleFaults.{Judged}
use Rattle.lisp_spec.specs.Expressions.{Expression, Scope, expression_of}

-- In a constant earlier constants may be named, and `a` may not be a head.
abbrev pub constant_scope : (earlier : List (List ℕ)) → Scope
constant_scope earlier = record { symbols = earlier; functions = []; inlines = []; may_run = false }

-- In a body its parameters and all constants may be named, and all functions and inlines called.
abbrev pub body_scope : (constants functions inlines : List (List ℕ)) → (params : Form) → Scope
body_scope constants functions inlines params =
    record { symbols = parameter_names params ++ constants; functions = functions; inlines = inlines; may_run = true }

-- what may be named in a body of a module with these parameters
abbrev pub module_scope : Module → (params : Form) → Scope
module_scope m params = body_scope (constant_names m.constants) (definition_names m.functions) (definition_names m.inlines) params

-- In this scope a form is this expression.
abbrev pub IsExpression : Scope → Form → Expression → Type 0
IsExpression scope f e = expression_of f scope ≡ Ok e

-- What a body is read as. Each body of a module without fault is an expression.
abbrev pub body_of : Module → (params body : Form) → Judged Expression
body_of m params body = expression_of body (module_scope m params)
