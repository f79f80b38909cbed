-- How far a form is expanded: what waits goes on with each part that is expanded. This project's own.
use Rattle.std.specs.Prelude.{◌≡◌, ℕ, ◌+◌, ◌*◌, ◌<◌, List, [], ◌∷◌, Option, Result, MatchResult}
use Rattle.lisp_read.specs.Views.{form_of}
use Rattle.lisp_read.specs.Copies.{size}
use Rattle.lisp_spec.specs.Forms.{Form, Place}
use Rattle.lisp_spec.specs.Forms as form
use Rattle.lisp_spec.specs.FormParts as parts
use Rattle.lisp_spec.specs.Macros.{Macro}
use Rattle.lisp_spec.specs.Weights.{weight_limit}
use Rattle.lisp_spec.specs.Expansion.{Expanded, Expands, PairKind, if_expanded, with_rest, expanded_part}
use Rattle.lisp_spec.specs.Expansion as expansion
use Rattle.lisp_macro.specs.Defined.{macro_with}
use Rattle.lisp_macro.specs.Faults.{IsMacroFault}
use Rattle.lisp_macro.specs.declared.fault.MacroFault.{MacroFault}
use Rattle.lisp_macro.specs.declared.walk.Part.{Part}
use Rattle.lisp_macro.specs.declared.walk.Part.TheVariants.{Expression, Operands, Template, OneTemplate}
use Rattle.lisp_macro.specs.declared.walk.Level.{Level}
use Rattle.lisp_macro.specs.declared.walk.Level.TheVariants.{First, Rest}
use Rattle.lisp_macro.specs.declared.walk.Next.{Next}
use Rattle.lisp_macro.specs.declared.walk.Next.TheVariants.{Looks, Has}
use Rattle.lisp_macro.specs.declared.walk.Pair.{Pair}
use Rattle.lisp_macro.specs.declared.walk.Kind.{Kind}
use Rattle.lisp_macro.specs.declared.walk.Kind.TheVariants.{Calls, Behind, Kept}

abbrev pub part_of : Part → parts.Part
part_of Expression = parts.Expression
part_of Operands = parts.Operands
part_of Template = parts.Template
part_of OneTemplate = parts.OneTemplate

abbrev pub pair_of : Pair → Form
pair_of pair = form.Pair pair.place pair.first pair.rest

-- what an expression is, told by the program
abbrev pub IsKind : Kind → PairKind → Type 0
IsKind (Calls definition) kind = (name : List ℕ) × (kind ≡ expansion.Calls (macro_with name definition.now))
IsKind (Behind part) kind = kind ≡ expansion.Behind (part_of part)
IsKind Kept kind = kind ≡ expansion.Kept

module _ (macros : List Macro) where
  -- what a level goes on to with the part that it waits for
  abbrev pub level_goes : Level → Form → ℕ → Expanded
  level_goes (First place part outer rest) front left = with_rest place front (expanded_part macros (part_of part) outer rest left)
  level_goes (Rest place first) behind left = Expands (form.Pair place first behind) left

  -- the levels from the outermost to the innermost, which goes on first
  abbrev pub walked_off : List Level → Expanded → Expanded
  walked_off [] expanded = expanded
  walked_off (level ∷ inner) expanded = if_expanded (walked_off inner expanded) (level_goes level)

  abbrev pub next_expanded : Next → ℕ → Expanded
  next_expanded (Looks part outer form) left = expanded_part macros (part_of part) outer (form_of form) left
  next_expanded (Has form) left = Expands (form_of form) left

-- ---- what is left to do

abbrev pub level_left : Level → ℕ
level_left (First place part outer rest) = size rest + 2
level_left (Rest place first) = 1

abbrev pub levels_left : List Level → ℕ
levels_left [] = 0
levels_left (level ∷ inner) = level_left level + levels_left inner

abbrev pub next_left : Next → ℕ
next_left (Looks part outer form) = size (form_of form)
next_left (Has form) = 0

-- more than there is to do with what a call gives: its parts are bounded by its weight
abbrev pub call_work : ℕ
call_work = 3 * weight_limit + 1

-- ---- steps

-- All comes to the same, and there is less to do, each turn counted as much as what a call may give.
pub record GoesOn (macros : List Macro) (before after : List Level) (turns left : ℕ) (part : Expanded) (work : ℕ) (next : Next) : Type 0 where
  pub same : walked_off macros after (next_expanded macros next left) ≡ walked_off macros before part
  pub less : left * call_work + (levels_left after + next_left next) < turns * call_work + (levels_left before + work)

-- A step of this part, with so many turns left before and behind it, and with so much to do before.
abbrev pub StepsTo : List Macro → List Level → List Level → ℕ → ℕ → Expanded → ℕ → Result Next MacroFault → Type 0
StepsTo macros before after turns left part work result = MatchResult result (GoesOn macros before after turns left part work) (IsMacroFault part left)
