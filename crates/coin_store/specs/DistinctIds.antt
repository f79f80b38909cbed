-- No two coins of a chain have one id. Source: Chia documentation of the coin set.
use Rattle.std.specs.Prelude.{map}
use Rattle.std.specs.List.{IsDistinct}
use Rattle.coin_facts.specs.CoinId.{coin_id}
use Rattle.chain_spec.specs.Chain.{Chain}
use Rattle.coin_facts.specs.IdLists.{is_same_id}

abbrev pub HasDistinctIds : Chain → Type 0
HasDistinctIds chain = IsDistinct is_same_id (map coin_id chain.coins)
