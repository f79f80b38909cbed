-- The faults of a module's text as the program answers them. This project's own.
use Rattle.std.specs.Prelude.{◌≡◌, Option, option_map, Err}
use Rattle.lisp_spec.specs.Forms.{Place}
use Rattle.lisp_spec.specs.ModuleFaults.{Fault, fault, Judged}
use Rattle.lisp_spec.specs.ModuleFaults as kind
use Rattle.lisp_parts.specs.declared.fault.PartsFault.{PartsFault}
use Rattle.lisp_parts.specs.declared.fault.PartsFault.TheVariants.{Read, NotAModule, NameTwice, IncludeMissing, LibraryFault, OutOfMemory}

-- That is what is judged. A library that failed and want of memory say nothing of the text.
abbrev pub IsFaultOf : {A : Type 0} → Judged A → PartsFault → Type 0
IsFaultOf judged (Read what place) = judged ≡ Err (fault (kind.Unreadable what) place)
IsFaultOf judged (NotAModule place) = judged ≡ Err (fault kind.NotAModule place)
IsFaultOf judged (NameTwice place) = judged ≡ Err (fault kind.NameTwice place)
IsFaultOf judged (IncludeMissing place) = judged ≡ Err (fault kind.IncludeMissing place)
IsFaultOf judged LibraryFault = Unit {0}
IsFaultOf judged OutOfMemory = Unit {0}

-- a name that stands a second time there
abbrev pub twice_at : Option Place → Option Fault
twice_at place = option_map (fault kind.NameTwice) place

-- The library failed or memory was wanting.
abbrev pub SaysNothing : PartsFault → Type 0
SaysNothing (Read what place) = ⊥
SaysNothing (NotAModule place) = ⊥
SaysNothing (NameTwice place) = ⊥
SaysNothing (IncludeMissing place) = ⊥
SaysNothing LibraryFault = Unit {0}
SaysNothing OutOfMemory = Unit {0}
