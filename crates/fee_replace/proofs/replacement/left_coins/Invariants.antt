use Rattle.std.proofs.Common.{◌≡◌, not, drop, get_or}
use Rattle.std.specs.List.{find}
use Rattle.pool_spec.specs.Prices.{Priced}
use Rattle.pool_spec.specs.Replacement.{covers, left_coins}
use Rattle.fee_replace.proofs.replacement.left_coins.Given as goal

-- The answer is found from here on.
abbrev pub invariant-loop-place : goal.invariant-loop-place
invariant-loop-place l =
    (d : Priced) → find (λ p. not (covers l.new (get_or l.items p d))) (drop l.place-index l.conflicts) ≡ left_coins l.new l.items
