-- What a test of operands by their kind answers. This project's own.
use Rattle.std.specs.Prelude.{◌≡◌, ◌≢◌, Result, MatchResult, List, Option, Some, None}
use Rattle.clvm_spec.specs.Tree.{Tree}
use Rattle.clvm_spec.specs.Outcomes.{Applied, Enough}
use Rattle.clvm_tree.specs.Operators.{IsOpFault}
use Rattle.clvm_tree.specs.declared.operators.OpFault.{OpFault}
use Rattle.clvm_tree.specs.declared.operators.OpFault.TheVariants.{OutOfMemory}

-- It is the fault that there is, if there is one. No memory is taken, so none is wanting.
abbrev pub Tells : {T : Type 0} → List Tree → Option Applied → Result T OpFault → Type 0
Tells trees fault result = MatchResult result (λ _. fault ≡ None) (λ told. (applied : Applied) × (fault ≡ Some applied) × IsOpFault trees (Enough applied) told × (told ≢ OutOfMemory))
