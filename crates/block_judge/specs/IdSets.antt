-- Sets of ids, as lists have them. Source: this project's own.
use Rattle.std.specs.Prelude.{◌≡◌, List, map, Bool}
use Rattle.std.specs.HashSet.{HashSet, contains}
use Rattle.std.specs.declared.hash.FoldHasher.{FoldHasher}
use Rattle.std.specs.declared.hash.BuildHasherDefault.{BuildHasherDefault}
use Rattle.coin_facts.specs.declared.hash32.Hash32.{Hash32}
use Rattle.coin_facts.specs.declared.coin.Coin.{Coin}
use Rattle.coin_facts.specs.CoinId.{coin_id}
use Rattle.coin_facts.specs.IdLists.{is_same_id, is_among}
use Rattle.cond_spec.specs.declared.condition.Condition.{Condition}
use Rattle.cond_spec.specs.Acts.{coin_made}

abbrev pub IdSet : Type 0
IdSet = HashSet Hash32 (BuildHasherDefault FoldHasher)

abbrev pub has : IdSet → Hash32 → Bool
has set id = contains is_same_id set id

-- The set has just the ids of a list.
abbrev pub HasIds : IdSet → List Hash32 → Type 0
HasIds set ids = (id : Hash32) → has set id ≡ is_among ids id

-- the id of the coin that a condition makes
abbrev pub ids_made : Coin → Condition → List Hash32
ids_made coin condition = map coin_id (coin_made coin condition)
