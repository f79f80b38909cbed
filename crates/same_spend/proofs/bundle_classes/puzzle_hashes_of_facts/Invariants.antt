use Rattle.std.proofs.Common.{◌≡◌, map, take}
use Rattle.same_spend.proofs.bundle_classes.puzzle_hashes_of_facts.Given as goal

abbrev pub invariant-loop-facts : goal.invariant-loop-facts
invariant-loop-facts l = l.hashes.items ≡ map (λ facts. facts.spend.coin.puzzle_hash) (take l.facts-index l.list)
