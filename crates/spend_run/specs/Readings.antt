-- What is read of the outcome of a run, whatever spend it is of. Source: this project's own.
use Rattle.std.specs.Prelude.{◌≡◌, ℕ}
use Rattle.clvm_spec.specs.Outcomes.{Outcome}
use Rattle.block_spec.specs.declared.spend.Spend.{Spend}
use Rattle.judge_spec.specs.Facts.{of_run}
use Rattle.spend_run.specs.declared.fault.SpendFault.{SpendFault}
use Rattle.spend_run.specs.declared.run.Reading.{Reading}
use Rattle.spend_run.specs.Breaches.{IsBreach}
use Rattle.spend_run.specs.Found.{asked}

abbrev pub IsReadAt : ℕ → Outcome → Reading → Type 0
IsReadAt limit outcome reading = (spend : Spend) → of_run limit spend outcome ≡ asked spend reading.cost reading.conditions

abbrev pub IsBreachAt : ℕ → Outcome → SpendFault → Type 0
IsBreachAt limit outcome fault = (spend : Spend) → IsBreach (of_run limit spend outcome) fault
