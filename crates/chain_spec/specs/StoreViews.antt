-- A store of a chain's coins, with its changes and what a revert gives back. Source: this project's own.
use Rattle.std.specs.Prelude.{ℕ, ◌-◌, List, [], ◌∷◌, ◌++◌, length, take, drop, reverse, nat_le, Option, Some, None}
use Rattle.std.specs.List.{flat_map}
use Rattle.coin_facts.specs.declared.hash32.Hash32.{Hash32}
use Rattle.coin_facts.specs.declared.coin.Coin.{Coin}
use Rattle.coin_facts.specs.Steps.{when}
use Rattle.chain_spec.specs.Chain.{Connected, touched_by, Chain}

-- The changes are the ids that connects and undos touched. What was before the last of these is kept for a revert.
pub record StoreView : Type 0 where
  pub chain : Chain
  pub changes : List Hash32
  pub before : Option (Chain × List Hash32)

-- with one coin more among those that the chain begins with, which is told as no change
abbrev pub started : Coin → StoreView → StoreView
started coin view = record {
  chain = record view.chain { coins = view.chain.coins ++ coin ∷ [] };
  changes = view.changes;
  before = None;
}

-- with other blocks, and these ids added to the changes
abbrev pub changed : List Connected → List Hash32 → StoreView → StoreView
changed blocks touched view = record {
  chain = record view.chain { blocks = blocks };
  changes = view.changes ++ touched;
  before = Some (view.chain, view.changes);
}

abbrev pub connected : Connected → StoreView → StoreView
connected block view = changed (view.chain.blocks ++ block ∷ []) (touched_by block) view

-- The last blocks are dropped. They are told as changes, the last one first.
abbrev pub without_last : ℕ → StoreView → StoreView
without_last count view =
    let kept = length view.chain.blocks - count in
    changed (take kept view.chain.blocks) (flat_map touched_by (reverse (drop kept view.chain.blocks))) view

-- nothing where there are fewer blocks
abbrev pub undone : ℕ → StoreView → Option StoreView
undone count view = when (nat_le count (length view.chain.blocks)) (without_last count view)

-- the state before the last connect or undo, its changes included
abbrev pub reverted_to : StoreView → Option (Chain × List Hash32) → StoreView
reverted_to view None = view
reverted_to view (Some before) = record { chain = before.0; changes = before.1; before = None }

abbrev pub reverted : StoreView → StoreView
reverted view = reverted_to view view.before
