-- What the records of a store are seen as, and that each is found by its coin's id. Source: this project's own.
use Rattle.std.specs.Prelude.{◌≡◌, ℕ, List, map}
use Rattle.std.specs.Map.{keys_of, values_of}
use Rattle.std.specs.List.{IsDistinct}
use Rattle.indexmap.specs.IndexMap.{spare}
use Rattle.coin_facts.specs.declared.hash32.Hash32.{Hash32}
use Rattle.coin_facts.specs.CoinId.{coin_id}
use Rattle.coin_facts.specs.IdLists.{is_same_id}
use Rattle.chain_spec.specs.declared.chain.Record.{Record}
use Rattle.chain_store.specs.RecordsView.{RecordsView, keyed}
use Rattle.chain_store.specs.declared.records.Records.TheInside.{Inside}

abbrev pub view_of : Inside → RecordsView
view_of inside = record { list = values_of inside.by_id.entries; room = spare inside.by_id }

pub record IsHeld (inside : Inside) : Type 0 where
  pub entries : inside.by_id.entries ≡ map keyed (values_of inside.by_id.entries)
  pub apart : IsDistinct is_same_id (keys_of inside.by_id.entries)
