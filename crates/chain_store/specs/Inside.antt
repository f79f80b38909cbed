-- What a store is seen as, and how its parts hang together. Source: this project's own.
use Rattle.std.specs.Prelude.{◌≡◌, ℕ, ◌≤◌, List, length, take, drop, Option, option_map, IfSome}
use Rattle.std.specs.List.{sum_by}
use Rattle.coin_facts.specs.declared.hash32.Hash32.{Hash32}
use Rattle.coin_facts.specs.declared.coin.Coin.{Coin}
use Rattle.chain_spec.specs.Chain.{Connected, Chain, records_of}
use Rattle.chain_spec.specs.Soundness.{IsSound}
use Rattle.chain_spec.specs.StoreViews.{StoreView}
use Rattle.chain_store.specs.declared.store.Before.{Before}
use Rattle.chain_store.specs.declared.store.Store.TheInside.{Inside}
use Rattle.chain_store.specs.RecordsView.{RecordsView}
use Rattle.chain_store.specs.Blocks.{created_count}

-- The parts of a store. Behind the chain's blocks are those that the last undo took off.
pub record Parts : Type 0 where
  pub genesis : Hash32
  pub seconds : ℕ
  pub coins : List Coin
  pub blocks : List Connected
  pub height : ℕ
  pub records : RecordsView
  pub changes : List Hash32
  pub before : Option Before

-- the chain of these blocks
abbrev pub chain_of : Parts → List Connected → Chain
chain_of parts blocks = record { genesis = parts.genesis; seconds = parts.seconds; coins = parts.coins; blocks = blocks }

-- the chain up to a height
abbrev pub chain_to : Parts → ℕ → Chain
chain_to parts height = chain_of parts (take height parts.blocks)

abbrev pub state_at : Parts → Before → Chain × List Hash32
state_at parts before = (chain_to parts before.height, take before.changes parts.changes)

abbrev pub seen : Parts → StoreView
seen parts = record {
  chain = chain_to parts parts.height;
  changes = parts.changes;
  before = option_map (state_at parts) parts.before;
}

-- There is room for the records of the blocks that were taken off.
pub record IsInOrder (parts : Parts) : Type 0 where
  pub sound : IsSound (chain_of parts parts.blocks)
  pub records : parts.records.list ≡ records_of (chain_to parts parts.height)
  pub height : parts.height ≤ length parts.blocks
  pub room : sum_by created_count (drop parts.height parts.blocks) ≤ parts.records.room
  pub before : IfSome parts.before (λ before. before.height ≤ length parts.blocks)

abbrev pub parts_of : Inside → Parts
parts_of store = record {
  genesis = store.genesis;
  seconds = store.seconds;
  coins = store.coins.items;
  blocks = store.blocks.items;
  height = store.height;
  records = store.records;
  changes = store.changes.items;
  before = store.before;
}

abbrev pub view_of : Inside → StoreView
view_of store = seen (parts_of store)

abbrev pub IsHeld : Inside → Type 0
IsHeld store = IsInOrder (parts_of store)
