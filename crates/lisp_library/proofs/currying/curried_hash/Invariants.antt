use Rattle.std.proofs.Common.{◌≡◌, drop}
use Rattle.clvm_spec.specs.Currying.{environment_hash}
use Rattle.lisp_library.proofs.currying.curried_hash.Given as goal

abbrev pub invariant-loop-place : goal.invariant-loop-place
invariant-loop-place l = l.environment ≡ environment_hash (drop l.place l.arguments)
