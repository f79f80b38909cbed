-- Records in the order in which they came, and for how many more there is room. Source: this project's own.
use Rattle.std.specs.Prelude.{◌≡◌, ℕ, List, [], ◌∷◌, map, Option, None, IsTrue, not, is_some, true}
use Rattle.std.specs.List.{find, list_all}
use Rattle.coin_facts.specs.declared.hash32.Hash32.{Hash32}
use Rattle.coin_facts.specs.CoinId.{coin_id}
use Rattle.coin_facts.specs.declared.coin.Coin.{Coin}
use Rattle.coin_facts.specs.IdLists.{has_id}
use Rattle.chain_spec.specs.declared.chain.Record.{Record}
use Rattle.chain_spec.specs.Soundness.{HasDistinctIds}

pub record RecordsView : Type 0 where
  pub list : List Record
  pub room : ℕ

-- the record of the coin with this id
abbrev pub found_in : List Record → Hash32 → Option Record
found_in list id = find (λ found. has_id id found.coin) list

-- a record with its coin's id
abbrev pub keyed : Record → Hash32 × Record
keyed found = (coin_id found.coin, found)

-- Coins of distinct ids, of none of which there is a record.
pub record AreNew (list : List Record) (coins : List Coin) : Type 0 where
  pub once : HasDistinctIds coins
  pub new : list_all (λ id. not (is_some (found_in list id))) (map coin_id coins) ≡ true
