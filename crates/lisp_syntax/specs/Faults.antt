-- The faults of forms as the program answers them. This project's own.
use Rattle.std.specs.Prelude.{◌≡◌, Err}
use Rattle.lisp_spec.specs.ModuleFaults.{Judged, fault}
use Rattle.lisp_spec.specs.ModuleFaults as kind
use Rattle.lisp_syntax.specs.declared.fault.FormFault.{FormFault}
use Rattle.lisp_syntax.specs.declared.fault.FormFault.TheVariants.{BadForm, Unbound, OutOfMemory}

-- That is the first fault. Memory alone may be wanting at any time.
abbrev pub IsFormFault : {A : Type 0} → Judged A → FormFault → Type 0
IsFormFault judged (BadForm place) = judged ≡ Err (fault kind.BadForm place)
IsFormFault judged (Unbound place) = judged ≡ Err (fault kind.Unbound place)
IsFormFault judged OutOfMemory = Unit {0}
