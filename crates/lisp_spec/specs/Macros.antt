-- Macros by name, their faults, and the turns that they have. Source: Chialisp reference; the limits are this
-- project's own.
use Rattle.std.specs.Prelude.{ℕ, List, Option, find, bytes_eq}
use Rattle.lisp_spec.specs.Forms.{Form}
use Rattle.lisp_spec.specs.declared.limits.TheConstants.{MOST_TURNS, MOST_NESTING}

-- a macro: its parameters, a tree of names, and the form that its calls evaluate
pub record Macro : Type 0 where
  pub name : List ℕ
  pub params : Form
  pub body : Form

abbrev pub macro_named : List ℕ → List Macro → Option Macro
macro_named name macros = find (λ m. bytes_eq m.name name) macros

pub data MacroFault : Type 0 where
  -- No turn is left.
  TurnsSpent : MacroFault
  -- A body that is met can't be evaluated, or gives a form nested too deep.
  BadMacro : MacroFault
  -- A body gives a form over the limit of weights.
  TooLarge : MacroFault

-- Each macro call and each evaluated expression of a body takes a turn. A module has this many for all its calls.
abbrev pub turns_of_a_module : ℕ
turns_of_a_module = MOST_TURNS

-- the most lists in one another in what a body gives
abbrev pub nesting_limit : ℕ
nesting_limit = MOST_NESTING
