use Rattle.std.proofs.Common.{◌≡◌, ◌+◌, ◌≤◌, ◌++◌, map, drop, length}
use Rattle.chain_spec.specs.Chain.{made_at}
use Rattle.chain_store.specs.RecordsView.{AreNew}
use Rattle.chain_store.proofs.records.Records.add_all.Given as goal

abbrev pub invariant-loop-coin : goal.invariant-loop-coin
invariant-loop-coin l =
    AreNew l.self.list (drop l.coin-index l.coins)
    × (l.self.list ++ map (made_at l.height l.seconds) (drop l.coin-index l.coins) ≡ l.fn.self.list ++ map (made_at l.height l.seconds) l.coins)
    × (length (drop l.coin-index l.coins) ≤ l.self.room)
    × (l.fn.self.room ≤ l.self.room + l.coin-index)
