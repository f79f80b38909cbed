use Rattle.std.proofs.Common.{◌≡◌, length}
use Rattle.clvm_spec.specs.Numbers.{without_sign_bytes}
use Rattle.clvm_spec.proofs.numbers.shortest_bytes.Given as goal

abbrev pub invariant-signs : goal.invariant-signs
invariant-signs l = without_sign_bytes l.rest ≡ without_sign_bytes l.bytes

abbrev pub decreases-signs : goal.decreases-signs
decreases-signs l = length l.rest
