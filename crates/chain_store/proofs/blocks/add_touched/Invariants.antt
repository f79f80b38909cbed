use Rattle.std.proofs.Common.{◌≡◌, ◌++◌, map, take}
use Rattle.coin_facts.specs.CoinId.{coin_id}
use Rattle.chain_store.proofs.blocks.add_touched.Given as goal

abbrev pub invariant-loop-coin : goal.invariant-loop-coin
invariant-loop-coin l = l.ids.items ≡ l.initial.ids.items ++ map coin_id (take l.coin-index l.coin-items)
