-- The program's faults as the definition's. This project's own.
use Rattle.std.specs.Prelude.{◌≡◌, ℕ}
use Rattle.lisp_spec.specs.Macros as faults
use Rattle.lisp_spec.specs.Expansion.{Expanded, Breaks}
use Rattle.lisp_macro.specs.declared.fault.MacroFault.{MacroFault}
use Rattle.lisp_macro.specs.declared.fault.MacroFault.TheVariants.{TurnsSpent, BadMacro, TooLarge, OutOfMemory}

-- The expansion breaks so, with so many turns left. Memory alone may be wanting at any time.
abbrev pub IsMacroFault : Expanded → ℕ → MacroFault → Type 0
IsMacroFault outcome left (TurnsSpent place) = outcome ≡ Breaks faults.TurnsSpent place left
IsMacroFault outcome left (BadMacro place) = outcome ≡ Breaks faults.BadMacro place left
IsMacroFault outcome left (TooLarge place) = outcome ≡ Breaks faults.TooLarge place left
IsMacroFault outcome left OutOfMemory = Unit {0}
