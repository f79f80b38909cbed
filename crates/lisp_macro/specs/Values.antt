-- The parts of a form, where it is a pair. This project's own.
use Rattle.std.specs.Prelude.{◌≡◌, Option, Some, None}
use Rattle.lisp_spec.specs.Forms.{Form, Atom, Symbol, Pair}
use Rattle.lisp_macro.specs.declared.fault.Stop.{Stop}
use Rattle.lisp_macro.specs.declared.fault.Stop.TheVariants.{TurnsSpent, BadMacro, OutOfMemory}

abbrev pub first_part : Form → Option Form
first_part (Atom place bytes) = None
first_part (Symbol place name) = None
first_part (Pair place first rest) = Some first

abbrev pub rest_part : Form → Option Form
rest_part (Atom place bytes) = None
rest_part (Symbol place name) = None
rest_part (Pair place first rest) = Some rest

-- Where there is no form, the macro is bad. Memory alone may be wanting at any time.
abbrev pub IsAstray : Option Form → Stop → Type 0
IsAstray found TurnsSpent = ⊥
IsAstray found BadMacro = found ≡ None
IsAstray found OutOfMemory = Unit {0}
