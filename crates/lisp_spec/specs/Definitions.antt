-- The definitions of a module as they are written. Source: Chialisp reference; that there are these five and no other
-- is this project's own.
use Rattle.std.specs.Prelude.{ℕ, Bool, true, false, not, List, [], ◌∷◌, Option, Some, None, map, filter, codes, nat_lt, if◌then◌else◌}
use Rattle.std.specs.List.{list_all}
use Rattle.lisp_spec.specs.Forms.{Form, Place, place_of_form}
use Rattle.lisp_spec.specs.Forms as form
use Rattle.lisp_spec.specs.Modules.{Definition}
use Rattle.lisp_read.specs.FormLists.{form_elements, is_symbol}
use Rattle.lisp_spec.specs.Parameters.{is_parameter_tree}

-- what a definition makes
pub data Role : Type 0 where
  Function : Role
  Inline : Role
  Macro : Role
  Constant : Role

-- a definition: where it stands, its name and where that stands, its parameters, and its body. A constant has the
-- empty tree of parameters, and its expression is the body.
pub record Written : Type 0 where
  pub role : Role
  pub place : Place
  pub name : List ℕ
  pub name_place : Place
  pub params : Form
  pub body : Form

-- what stands in the place of a definition
pub data Entry : Type 0 where
  Defines : Written → Entry
  Includes : (name : List ℕ) → Entry
  -- no definition's shape
  Shapeless : Entry

-- (defun NAME PARAMS body), and the same for inlines and macros
abbrev pub with_params : Role → Place → List Form → Entry
with_params role place (form.Symbol at name ∷ params ∷ body ∷ []) =
    if is_parameter_tree params
    then Defines (record { role = role; place = place; name = name; name_place = at; params = params; body = body })
    else Shapeless
with_params role place parts = Shapeless

-- (defconstant NAME expression)
abbrev pub constant : Place → List Form → Entry
constant place (form.Symbol at name ∷ body ∷ []) =
    Defines (record { role = Constant; place = place; name = name; name_place = at; params = form.Atom at []; body = body })
constant place parts = Shapeless

abbrev pub is_ascii : ℕ → Bool
is_ascii byte = nat_lt byte 128

-- (include NAME), where the name is a symbol, or an atom of ASCII characters
abbrev pub include : List Form → Entry
include (form.Symbol at name ∷ []) = Includes name
include (form.Atom at bytes ∷ []) = if list_all is_ascii bytes then Includes bytes else Shapeless
include parts = Shapeless

abbrev pub entry_with : Place → Form → List Form → Entry
entry_with place head parts =
    if is_symbol (codes "defun") head then with_params Function place parts
    else if is_symbol (codes "defun-inline") head then with_params Inline place parts
    else if is_symbol (codes "defmacro") head then with_params Macro place parts
    else if is_symbol (codes "defconstant") head then constant place parts
    else if is_symbol (codes "include") head then include parts
    else Shapeless

abbrev pub entry_in : Place → Option (List Form) → Entry
entry_in place None = Shapeless
entry_in place (Some []) = Shapeless
entry_in place (Some (head ∷ parts)) = entry_with place head parts

-- what a form is in the place of a definition
abbrev pub entry_of : Form → Entry
entry_of f = entry_in (place_of_form f) (form_elements f)

abbrev pub is_role : (wanted role : Role) → Bool
is_role Function Function = true
is_role Inline Inline = true
is_role Macro Macro = true
is_role Constant Constant = true
is_role wanted role = false

abbrev pub with_role : Role → List Written → List Written
with_role wanted definitions = filter (λ d. is_role wanted d.role) definitions

abbrev pub names_of : List Written → List (List ℕ)
names_of definitions = map (λ d. d.name) definitions

abbrev pub constants_in : List Written → List Written
constants_in definitions = with_role Constant definitions

abbrev pub macros_in : List Written → List Written
macros_in definitions = with_role Macro definitions

abbrev pub without_macros : List Written → List Written
without_macros definitions = filter (λ d. not (is_role Macro d.role)) definitions

-- what is called: a function or an inline, without its places
abbrev pub definition : Written → Definition
definition d = record { name = d.name; params = d.params; body = d.body }

abbrev pub functions_in : List Written → List Definition
functions_in definitions = map definition (with_role Function definitions)

abbrev pub inlines_in : List Written → List Definition
inlines_in definitions = map definition (with_role Inline definitions)
