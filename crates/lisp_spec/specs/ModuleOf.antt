-- The module that a text stands for, or its first fault. Source: Chialisp reference; the stages, their order and
-- the limits are this project's own.
use Rattle.std.specs.Prelude.{ℕ, Bool, ◌&&◌, ◌||◌, List, [], ◌∷◌, ◌++◌, map, Option, None, Ok, Err, nat_le, not, if◌then◌else◌}
use Rattle.lisp_spec.specs.Forms.{Form, Place, place_of_form}
use Rattle.lisp_spec.specs.Modules.{Constant, Module, definition_names}
use Rattle.lisp_spec.specs.Weights.{weight_limit}
use Rattle.lisp_spec.specs.Macros as macros
use Rattle.lisp_spec.specs.Macros.{Macro, MacroFault, turns_of_a_module}
use Rattle.lisp_spec.specs.Expansion.{Expanded, Expands, Breaks, expansion}
use Rattle.lisp_spec.specs.ModuleFaults.{Kind, TurnsSpent, BadMacro, TooLarge, InlineCycle, Fault, fault, Judged, ◌>>=◌, ◌or◌, unless, expect, fault_of}
use Rattle.lisp_spec.specs.Definitions as roles
use Rattle.lisp_spec.specs.Definitions.{Written, Inline, is_role, names_of, constants_in, macros_in, without_macros, functions_in, inlines_in}
use Rattle.lisp_spec.specs.Inclusion.{Texts, Parts, parts_of_text, definitions_of}
use Rattle.lisp_spec.specs.Expressions.{Scope, expression_of}
use Rattle.lisp_spec.specs.Scopes.{constant_scope, body_scope}
use Rattle.lisp_spec.specs.Constants.{constants_after}
use Rattle.lisp_spec.specs.Cycles.{reaches_itself}
use Rattle.lisp_spec.specs.ExpressionWeights.{expression_weight}

-- ---- expansion

abbrev pub macro_kind : MacroFault → Kind
macro_kind macros.TurnsSpent = TurnsSpent
macro_kind macros.BadMacro = BadMacro
macro_kind macros.TooLarge = TooLarge

abbrev pub macro_of : Written → Macro
macro_of d = record { name = d.name; params = d.params; body = d.body }

-- a form, and the turns that are left
abbrev pub expanded : Expanded → Judged (Form × ℕ)
expanded (Expands f left) = Ok (f, left)
expanded (Breaks kind place left) = Err (fault (macro_kind kind) place)

abbrev pub with_body : Written → Form → Written
with_body d body = record d { body = body }

-- Each definition takes its turns of what those before it left.
abbrev pub expanded_all : List Macro → List Written → ℕ → Judged (List Written × ℕ)
expanded_all table [] turns = Ok ([], turns)
expanded_all table (d ∷ definitions) turns = do
  body ← expanded (expansion table d.body turns)
  others ← expanded_all table definitions body.1
  Ok (with_body d body.0 ∷ others.0, others.1)

-- a module in which the calls of macros are expanded, with the place of its body in the text
pub record Draft : Type 0 where
  pub params : Form
  pub definitions : List Written
  pub body : Form
  pub body_place : Place

-- Macros are known everywhere, wherever they are defined. The body comes last.
abbrev pub draft_with : List Macro → Parts → List Written → Judged Draft
draft_with table parts written = do
  definitions ← expanded_all table written turns_of_a_module
  body ← expanded (expansion table parts.body definitions.1)
  Ok (record { params = parts.params; definitions = definitions.0; body = body.0; body_place = place_of_form parts.body })

abbrev pub draft_of : Parts → List Written → Judged Draft
draft_of parts written = draft_with (map macro_of (macros_in written)) parts (without_macros written)

-- ---- forms and names

abbrev pub draft_scope : List Written → Form → Scope
draft_scope definitions params =
    body_scope (names_of (constants_in definitions)) (definition_names (functions_in definitions)) (definition_names (inlines_in definitions)) params

-- the first fault of the definitions that stand behind these constants
abbrev pub forms_fault : (Form → Scope) → List (List ℕ) → List Written → Option Fault
forms_fault scope earlier [] = None
forms_fault scope earlier (d ∷ definitions) =
    if is_role roles.Constant d.role
    then fault_of (expression_of d.body (constant_scope earlier)) or forms_fault scope (earlier ++ d.name ∷ []) definitions
    else fault_of (expression_of d.body (scope d.params)) or forms_fault scope earlier definitions

abbrev pub draft_fault : Draft → Option Fault
draft_fault draft =
    forms_fault (draft_scope draft.definitions) [] draft.definitions
    or fault_of (expression_of draft.body (draft_scope draft.definitions draft.params))

-- ---- constants, inlines and weights

abbrev pub module_with : Draft → List Constant → Module
module_with draft constants = record {
  params = draft.params;
  constants = constants;
  functions = functions_in draft.definitions;
  inlines = inlines_in draft.definitions;
  body = draft.body;
}

-- the first inline that reaches itself
abbrev pub cycle_fault : Module → List Written → Option Fault
cycle_fault m [] = None
cycle_fault m (d ∷ definitions) =
    expect (not (is_role Inline d.role && reaches_itself m d.name)) InlineCycle d.place or cycle_fault m definitions

-- An expression is within the limit of weights.
abbrev pub is_light : Module → Form → Form → Bool
is_light m params body = nat_le (expression_weight m params body) weight_limit

-- the first function or inline past the limit
abbrev pub weights_fault : Module → List Written → Option Fault
weights_fault m [] = None
weights_fault m (d ∷ definitions) =
    expect (is_role roles.Constant d.role || is_light m d.params d.body) TooLarge d.place or weights_fault m definitions

-- then the body, at the place where its text begins
abbrev pub module_fault : Draft → Module → Option Fault
module_fault draft m =
    cycle_fault m draft.definitions
    or weights_fault m draft.definitions
    or expect (is_light m m.params m.body) TooLarge draft.body_place

-- ---- the stages, one after another: texts and definitions, expansion, forms and names, constants, inlines, weights

abbrev pub module_of : List ℕ → Texts → Judged Module
module_of text texts = do
  parts ← parts_of_text text
  written ← definitions_of texts parts
  draft ← draft_of parts written
  sound ← unless (draft_fault draft) draft
  constants ← constants_after [] (constants_in sound.definitions)
  unless (module_fault sound (module_with sound constants)) (module_with sound constants)
