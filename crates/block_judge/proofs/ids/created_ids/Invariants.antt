use Rattle.std.proofs.Common.{◌≡◌, map, take}
use Rattle.std.specs.List.{flat_map}
use Rattle.coin_facts.specs.CoinId.{coin_id}
use Rattle.cond_spec.specs.Acts.{of_spend, coin_made}
use Rattle.judge_spec.specs.Facts.{acts_of}
use Rattle.block_judge.proofs.ids.created_ids.Given as goal

abbrev pub invariant-loop-facts : goal.invariant-loop-facts
invariant-loop-facts l = l.ids.items ≡ flat_map (λ facts. map coin_id (of_spend coin_made (acts_of facts))) (take l.facts-index l.list)
