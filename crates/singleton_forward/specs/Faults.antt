-- How a fault stands for the first broken check. Source: this project's own.
use Rattle.std.specs.Prelude.{◌≡◌, ℕ, Result, Err}
use Rattle.clvm_eval.specs.declared.RunFault.{RunFault}
use Rattle.clvm_eval.specs.declared.RunFault.TheVariants as run_fault
use Rattle.cond_parse.specs.declared.fault.CondFault.{CondFault}
use Rattle.cond_parse.specs.declared.fault.CondFault.TheVariants as cond_fault
use Rattle.singleton_forward.specs.declared.fault.ShapeFault.{ShapeFault}
use Rattle.singleton_forward.specs.declared.fault.ShapeFault.TheVariants.{Broken, OutOfMemory}

-- Want of memory says nothing of the spend.
abbrev pub IsBroken : {A : Type 0} → Result A ℕ → ShapeFault → Type 0
IsBroken found (Broken number) = found ≡ Err number
IsBroken found OutOfMemory = Unit {0}

-- A run that isn't done breaks check 8, and so does one whose conditions are malformed or unknown.
abbrev pub of_run : RunFault → ShapeFault
of_run (run_fault.Failed why form) = Broken 8
of_run (run_fault.Spent which) = Broken 8
of_run run_fault.Wide = Broken 8
of_run run_fault.OutOfMemory = OutOfMemory

abbrev pub of_conditions : CondFault → ShapeFault
of_conditions (cond_fault.Malformed place) = Broken 8
of_conditions (cond_fault.Unknown place) = Broken 8
of_conditions cond_fault.OutOfMemory = OutOfMemory
