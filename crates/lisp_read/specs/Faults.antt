-- Why a text isn't read, as the reader answers it. Source: this project's own.
use Rattle.std.specs.Prelude.{◌≡◌}
use Rattle.lisp_read.specs.declared.fault.ReadAt.{ReadAt}
use Rattle.lisp_read.specs.declared.fault.ReadAt.TheVariants.{At, OutOfMemory}
use Rattle.lisp_read.specs.Grammar.{Read, Unreadable}

-- That is the first fault of what is read.
abbrev pub IsReadFault : Read → ReadAt → Type 0
IsReadFault read (At kind at) = read ≡ Unreadable kind at
IsReadFault read OutOfMemory = Unit {0}
