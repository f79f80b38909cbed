-- The chain that a store stands for, and that its map has the records of just this chain. Source: this project's own.
use Rattle.std.specs.Prelude.{◌≡◌, []}
use Rattle.chain_spec.specs.Chain.{Chain}
use Rattle.coin_store.specs.declared.store.Store.TheInside.{Inside}
use Rattle.coin_store.specs.DistinctIds.{HasDistinctIds}
use Rattle.coin_store.specs.Entries.{entries_of}

abbrev pub chain_of : Inside → Chain
chain_of store = record { genesis = store.genesis; seconds = store.seconds; coins = store.coins.items; blocks = [] }

pub record IsHeld (store : Inside) : Type 0 where
  pub entries : store.records.entries ≡ entries_of store.seconds store.coins.items
  pub distinct : HasDistinctIds (chain_of store)
