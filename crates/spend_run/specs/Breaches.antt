-- How a fault stands for the first broken of the rules 3 to 10. Source: this project's own.
use Rattle.std.specs.Prelude.{◌≡◌, Result, Err}
use Rattle.clvm_eval.specs.declared.RunFault.{RunFault}
use Rattle.clvm_eval.specs.declared.RunFault.TheVariants as run_fault
use Rattle.cond_parse.specs.declared.fault.CondFault.{CondFault}
use Rattle.cond_parse.specs.declared.fault.CondFault.TheVariants as cond_fault
use Rattle.judge_spec.specs.Facts as facts
use Rattle.spend_run.specs.declared.fault.SpendFault.{SpendFault}
use Rattle.spend_run.specs.declared.fault.SpendFault.TheVariants.{PuzzleHash, Failed, Spent, Wide, Malformed, Unknown, SameOutput, OwnFact, OutOfMemory}

-- Want of memory says nothing of the spend.
abbrev pub IsBreach : Result facts.Facts facts.Breach → SpendFault → Type 0
IsBreach found PuzzleHash = found ≡ Err facts.OtherPuzzle
IsBreach found Failed = found ≡ Err facts.RunFails
IsBreach found Spent = found ≡ Err facts.RunSpends
IsBreach found Wide = found ≡ Err facts.RunIsWide
IsBreach found (Malformed place) = found ≡ Err (facts.Malformed place)
IsBreach found (Unknown place) = found ≡ Err (facts.Unknown place)
IsBreach found (SameOutput place) = found ≡ Err (facts.SameOutput place)
IsBreach found (OwnFact place) = found ≡ Err (facts.OwnFact place)
IsBreach found OutOfMemory = Unit {0}

-- ---- faults of the calls below

abbrev pub of_run : RunFault → SpendFault
of_run (run_fault.Failed why form) = Failed
of_run (run_fault.Spent which) = Spent
of_run run_fault.Wide = Wide
of_run run_fault.OutOfMemory = OutOfMemory

abbrev pub of_conditions : CondFault → SpendFault
of_conditions (cond_fault.Malformed place) = Malformed place
of_conditions (cond_fault.Unknown place) = Unknown place
of_conditions cond_fault.OutOfMemory = OutOfMemory
