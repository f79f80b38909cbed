-- What turns are to macros, and what is expanded: laws of the definitions, each proved once for the crates above.
use Rattle.std.specs.Prelude.{◌≡◌, ℕ, ◌+◌, ◌≤◌, List, [], Option, Some}
use Rattle.lisp_spec.specs.Forms.{Form, Place}
use Rattle.lisp_spec.specs.Macros.{Macro, MacroFault, TurnsSpent}
use Rattle.lisp_spec.specs.MacroBodies.{MacroCall, body_value, valued_by, valued_within}
use Rattle.lisp_spec.specs.FormParts.{Part}
use Rattle.lisp_spec.specs.Expansion.{Expands, Breaks, expanded_by, again_within, expanded_part, expanded_again}

-- The definition's bound on expressions within each other is no part of its meaning: any number of at least the turns
-- gives the same.
abbrev pub BodyBoundIsEnough : Type 0
BodyBoundIsEnough = (call : MacroCall) (expression : Form) (bound turns : ℕ) → turns ≤ bound →
    valued_within bound call expression turns ≡ body_value call expression turns

-- So a body's value is one step, with the values of what the step goes on with.
abbrev pub BodyIsItsStep : Type 0
BodyIsItsStep = (call : MacroCall) (expression : Form) (turns : ℕ) →
    body_value call expression turns ≡ valued_by (body_value call) call expression turns

-- Nor is the bound on results within each other.
abbrev pub ExpansionBoundIsEnough : Type 0
ExpansionBoundIsEnough = (macros : List Macro) (part : Part) (outer : Option Place) (form : Form) (bound turns : ℕ) → turns ≤ bound →
    expanded_by macros (again_within bound macros) part outer form turns ≡ expanded_part macros part outer form turns

-- So a form's expansion is one step, with the expansion of what its calls give.
abbrev pub ExpansionIsItsStep : Type 0
ExpansionIsItsStep = (macros : List Macro) (part : Part) (outer : Option Place) (form : Form) (turns : ℕ) →
    expanded_part macros part outer form turns ≡ expanded_by macros (expanded_again macros) part outer form turns

-- No turn comes back, neither with a form nor with a fault, and where the turns are spent none is left.
abbrev pub TurnsFall : Type 0
TurnsFall = (macros : List Macro) (part : Part) (outer : Option Place) (form result : Form) (turns left : ℕ) →
    expanded_part macros part outer form turns ≡ Expands result left → left ≤ turns

abbrev pub FaultsLeaveNoMore : Type 0
FaultsLeaveNoMore = (macros : List Macro) (part : Part) (outer : Option Place) (form : Form) (turns left : ℕ) (fault : MacroFault) (place : Place) →
    expanded_part macros part outer form turns ≡ Breaks fault place left → left ≤ turns

abbrev pub SpentTurnsLeaveNone : Type 0
SpentTurnsLeaveNone = (macros : List Macro) (part : Part) (outer : Option Place) (form : Form) (turns left : ℕ) (place : Place) →
    expanded_part macros part outer form turns ≡ Breaks TurnsSpent place left → left ≡ 0

-- With more turns a form is expanded to the same, and each fault but that of spent turns is the same, with as many more
-- turns left.
abbrev pub MoreTurnsKeepForms : Type 0
MoreTurnsKeepForms = (macros : List Macro) (part : Part) (outer : Option Place) (form result : Form) (turns more left : ℕ) →
    expanded_part macros part outer form turns ≡ Expands result left → expanded_part macros part outer form (more + turns) ≡ Expands result (more + left)

abbrev pub MoreTurnsKeepFaults : Type 0
MoreTurnsKeepFaults = (macros : List Macro) (part : Part) (outer : Option Place) (form : Form) (turns more left : ℕ) (fault : MacroFault) (place : Place) → ¬ (fault ≡ TurnsSpent) →
    expanded_part macros part outer form turns ≡ Breaks fault place left → expanded_part macros part outer form (more + turns) ≡ Breaks fault place (more + left)

-- Each fault in what a call gave stands where that call is written.
abbrev pub FaultsStandAtTheWrittenCall : Type 0
FaultsStandAtTheWrittenCall = (macros : List Macro) (part : Part) (call : Place) (form : Form) (turns left : ℕ) (fault : MacroFault) (place : Place) →
    expanded_part macros part (Some call) form turns ≡ Breaks fault place left → place ≡ call

-- What is expanded has no call any more: it is expanded to itself, and takes no turn.
abbrev pub WhatIsExpandedIsSettled : Type 0
WhatIsExpandedIsSettled = (macros : List Macro) (part : Part) (outer other : Option Place) (form result : Form) (turns left more : ℕ) →
    expanded_part macros part outer form turns ≡ Expands result left → expanded_part macros part other result more ≡ Expands result more

-- Without macros each form is expanded to itself.
abbrev pub WithoutMacrosAllIsSettled : Type 0
WithoutMacrosAllIsSettled = (part : Part) (outer : Option Place) (form : Form) (turns : ℕ) →
    expanded_part [] part outer form turns ≡ Expands form turns
