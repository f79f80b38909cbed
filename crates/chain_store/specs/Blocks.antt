-- Blocks that are put on the records of a chain, or taken off. Source: this project's own.
use Rattle.std.specs.Prelude.{ℕ, suc, List, [], ◌∷◌, length, map, take, drop, reverse, None, nat_lt, slice_range, if◌then◌else◌}
use Rattle.std.specs.List.{flat_map}
use Rattle.coin_facts.specs.declared.hash32.Hash32.{Hash32}
use Rattle.coin_facts.specs.declared.coin.Coin.{Coin}
use Rattle.chain_spec.specs.declared.chain.Record.{Record}
use Rattle.chain_spec.specs.Chain.{Connected, with_block, touched_by}
use Rattle.chain_spec.specs.StoreViews.{StoreView, changed}
use Rattle.chain_store.specs.RecordsView.{AreNew}
use Rattle.chain_store.specs.Marks.{marked, without_last}

abbrev pub block_with : Hash32 → ℕ → List Hash32 → List Coin → Connected
block_with hash seconds spent created = record { hash = hash; seconds = seconds; spent = spent; created = created }

-- The coins that the block spends are unspent again, and those that it creates, which come last, are gone.
abbrev pub without_block : Connected → List Record → List Record
without_block block records = without_last (length block.created) (map (marked None block.spent) records)

-- the last block first
abbrev pub without_blocks : List Connected → List Record → List Record
without_blocks [] records = records
without_blocks (block ∷ blocks) records = without_block block (without_blocks blocks records)

-- ---- several blocks

abbrev pub created_count : Connected → ℕ
created_count block = length block.created

-- with blocks whose heights follow on this one
abbrev pub with_blocks : ℕ → List Connected → List Record → List Record
with_blocks below [] records = records
with_blocks below (block ∷ blocks) records = with_blocks (suc below) blocks (with_block (suc below) block records)

-- Each block's coins are new in its turn.
abbrev pub AreNewInTurn : ℕ → List Record → List Connected → Type 0
AreNewInTurn below records [] = Unit {0}
AreNewInTurn below records (block ∷ blocks) =
    AreNew records block.created × AreNewInTurn (suc below) (with_block (suc below) block records) blocks

-- Between two heights the blocks are put on, or taken off.
abbrev pub moved : ℕ → ℕ → List Connected → List Record → List Record
moved from to blocks records =
    if nat_lt to from then without_blocks (slice_range blocks to from) records else with_blocks from (slice_range blocks from to) records

-- a store that has gone back to a height
abbrev pub back_to : ℕ → StoreView → StoreView
back_to kept view = changed (take kept view.chain.blocks) (flat_map touched_by (reverse (drop kept view.chain.blocks))) view
