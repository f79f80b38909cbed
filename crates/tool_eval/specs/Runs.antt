-- A run's result, by the nodes that it has. Source: this project's own.
use Rattle.std.specs.Prelude.{List, Result, Ok, Err}
use Rattle.clvm_spec.specs.declared.fuel.Fuel.{Fuel}
use Rattle.clvm_spec.specs.Tree.{Tree}
use Rattle.clvm_spec.specs.Outcomes.{Outcome}
use Rattle.clvm_tree.specs.Nodes.{IsKnown}
use Rattle.clvm_eval.specs.Runs.{IsWhyKnown, IsRunDone, IsRunFault}
use Rattle.clvm_eval.specs.declared.Done.{Done}
use Rattle.clvm_eval.specs.declared.RunFault.{RunFault}
use Rattle.clvm_eval.specs.declared.RunFault.TheVariants.{Failed, Spent, Wide, OutOfMemory}

abbrev pub IsRunKnown : List Tree → Result Done RunFault → Type 0
IsRunKnown trees (Ok done) = IsKnown trees done.value.0
IsRunKnown trees (Err (Failed why form)) = IsWhyKnown trees why × IsKnown trees form.0
IsRunKnown trees (Err (Spent which)) = Unit {0}
IsRunKnown trees (Err Wide) = Unit {0}
IsRunKnown trees (Err OutOfMemory) = Unit {0}

-- A run's result is how the run comes out.
abbrev pub HasOutcome : List Tree → Fuel → Outcome → Result Done RunFault → Type 0
HasOutcome trees fuel outcome (Ok done) = IsRunDone trees fuel outcome done
HasOutcome trees fuel outcome (Err fault) = IsRunFault trees outcome fault
