-- How an error stands for the answer to an admission. Source: this project's own.
use Rattle.std.specs.Prelude.{◌≡◌}
use Rattle.pool_spec.specs.FirstAdmission as answer
use Rattle.pool_core.specs.declared.fault.AdmitFault.{AdmitFault}
use Rattle.pool_core.specs.declared.fault.AdmitFault.TheVariants.{Refused, OutOfMemory}

-- A refusal is the answer's, with its rule and place. Want of memory says nothing of the answer.
abbrev pub IsRefusedBy : answer.FirstAdmission → AdmitFault → Type 0
IsRefusedBy admission (Refused rule place) = admission ≡ answer.Refused rule place
IsRefusedBy admission OutOfMemory = Unit {0}
