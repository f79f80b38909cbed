-- How a fault stands for a verdict. Source: this project's own.
use Rattle.std.specs.Prelude.{◌≡◌}
use Rattle.pool_spec.specs.FirstJudgement.{Verdict, Broken}
use Rattle.pool_core.specs.declared.fault.AdmitFault.{AdmitFault}
use Rattle.pool_core.specs.declared.fault.AdmitFault.TheVariants.{Refused, OutOfMemory}

-- A refusal is the verdict's broken rule and place. Want of memory says nothing of the verdict.
abbrev pub IsRefusal : Verdict → AdmitFault → Type 0
IsRefusal verdict (Refused rule place) = verdict ≡ Broken rule place
IsRefusal verdict OutOfMemory = Unit {0}
