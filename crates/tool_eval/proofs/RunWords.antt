-- A run's result is how the run comes out, and its nodes are known.
use Rattle.std.proofs.Common.{List, Result, Ok, Err, IfOk, IfErr}
use Rattle.clvm_spec.specs.declared.fuel.Fuel.{Fuel}
use Rattle.clvm_spec.specs.Tree.{Tree}
use Rattle.clvm_spec.specs.Outcomes.{Outcome}
use Rattle.clvm_eval.specs.Runs.{IsRunDone, IsRunFault}
use Rattle.clvm_eval.specs.declared.Done.{Done}
use Rattle.clvm_eval.specs.declared.RunFault.{RunFault}
use Rattle.clvm_eval.specs.declared.RunFault.TheVariants.{Failed, Spent, Wide, OutOfMemory}
use Rattle.tool_eval.specs.Runs.{IsRunKnown, HasOutcome}

pub has-outcome : (trees : List Tree) (fuel : Fuel) (outcome : Outcome) (run : Result Done RunFault)
    → IfOk run (IsRunDone trees fuel outcome) → IfErr run (IsRunFault trees outcome) → HasOutcome trees fuel outcome run
has-outcome trees fuel outcome (Ok done) ok err = ok
has-outcome trees fuel outcome (Err fault) ok err = err

pub run-known : (trees : List Tree) (fuel : Fuel) (outcome : Outcome) (run : Result Done RunFault) → HasOutcome trees fuel outcome run → IsRunKnown trees run
run-known trees fuel outcome (Ok done) has = has.known
run-known trees fuel outcome (Err (Failed why form)) has = (has.raised_known, has.form_known)
run-known trees fuel outcome (Err (Spent which)) has = tt
run-known trees fuel outcome (Err Wide) has = tt
run-known trees fuel outcome (Err OutOfMemory) has = tt
