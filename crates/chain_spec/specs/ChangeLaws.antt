-- Laws of stores that go on by connects and undos. They follow from the definitions.
use Rattle.std.specs.Prelude.{◌≡◌, ℕ, ◌==◌, ◌&&◌, List, [], ◌∷◌, ◌++◌, length, drop, Bool, true, false, Option, Some, None}
use Rattle.std.specs.List.{IsDistinct}
use Rattle.coin_facts.specs.declared.hash32.Hash32.{Hash32}
use Rattle.coin_facts.specs.declared.coin.Coin.{Coin}
use Rattle.coin_facts.specs.CoinId.{coin_id}
use Rattle.coin_facts.specs.IdLists.{is_same_id, is_among}
use Rattle.chain_spec.specs.declared.chain.Record.{Record}
use Rattle.chain_spec.specs.Chain.{Ledger, Connected, Chain, look_up, is_in_chain, after_block, ledger_of, peak_of}
use Rattle.chain_spec.specs.Soundness.{CanConnect, IsSound}
use Rattle.chain_spec.specs.Looks.{unspent_of}
use Rattle.chain_spec.specs.ChainLaws.{ids_of}
use Rattle.chain_spec.specs.StoreViews.{StoreView, started, connected, without_last}

-- ---- chains that grow and shrink

abbrev pub with_one_more : Connected → Chain → Chain
with_one_more block chain = record chain { blocks = chain.blocks ++ block ∷ [] }

-- The ledger of a chain with one block more is the ledger after that block.
abbrev pub LedgerGrows : Type 0
LedgerGrows = (chain : Chain) (block : Connected) → ledger_of (with_one_more block chain) ≡ after_block (ledger_of chain) block

-- A sound chain stays sound with a block that can be connected.
abbrev pub ConnectedIsSound : Type 0
ConnectedIsSound = (chain : Chain) (block : Connected) → IsSound chain → CanConnect (ledger_of chain) block → IsSound (with_one_more block chain)

-- A chain without blocks stays sound with a start coin whose id isn't there.
abbrev pub StartedIsSound : Type 0
StartedIsSound = (view : StoreView) (coin : Coin) → view.chain.blocks ≡ [] → IsSound view.chain → is_in_chain (ledger_of view.chain) (coin_id coin) ≡ false →
    IsSound (started coin view).chain

-- The peak's height is the number of blocks.
abbrev pub HeightIsBlocks : Type 0
HeightIsBlocks = (chain : Chain) → (peak_of chain).height ≡ length chain.blocks

-- A sound chain stays sound without its last blocks.
abbrev pub UndoneIsSound : Type 0
UndoneIsSound = (view : StoreView) (count : ℕ) → IsSound view.chain → IsSound (without_last count view).chain

-- ---- changes

-- a connect, or an undo of so many blocks
pub data Move : Type 0 where
  Connects : Connected → Move
  Undoes : ℕ → Move

abbrev pub moved : StoreView → Move → StoreView
moved view (Connects block) = connected block view
moved view (Undoes count) = without_last count view

abbrev pub after_moves : StoreView → List Move → StoreView
after_moves view [] = view
after_moves view (move ∷ moves) = after_moves (moved view move) moves

-- the changes since there were so many
abbrev pub changed_since : ℕ → StoreView → List Hash32
changed_since generation view = drop generation view.changes

-- Later changes begin with the earlier ones.
abbrev pub ChangesGrow : Type 0
ChangesGrow = (view : StoreView) (moves : List Move) →
    (after_moves view moves).changes ≡ view.changes ++ changed_since (length view.changes) (after_moves view moves)

-- An id that isn't among the changes since has the same record as before.
abbrev pub ChangesTell : Type 0
ChangesTell = (view : StoreView) (moves : List Move) (id : Hash32) → is_among (changed_since (length view.changes) (after_moves view moves)) id ≡ false →
    look_up (ledger_of (after_moves view moves).chain) id ≡ look_up (ledger_of view.chain) id

-- ---- puzzle hashes and amounts

-- whether a record is of a coin of this puzzle hash and amount
abbrev pub is_of : Hash32 → ℕ → Option Record → Bool
is_of puzzle_hash amount None = false
is_of puzzle_hash amount (Some found) = is_same_id found.coin.puzzle_hash puzzle_hash && (found.coin.amount == amount)

-- what changed between two ledgers is none of the coins of this puzzle hash and amount
pub record IsElsewhere (ledger other : Ledger) (changes : List Hash32) (puzzle_hash : Hash32) (amount : ℕ) : Type 0 where
  pub apart : IsDistinct is_same_id (ids_of ledger.records)
  pub others_apart : IsDistinct is_same_id (ids_of other.records)
  pub same : (id : Hash32) → is_among changes id ≡ false → look_up other id ≡ look_up ledger id
  pub before : (id : Hash32) → is_among changes id ≡ true → is_of puzzle_hash amount (look_up ledger id) ≡ false
  pub behind : (id : Hash32) → is_among changes id ≡ true → is_of puzzle_hash amount (look_up other id) ≡ false

-- Then there is the same of unspent coins of this puzzle hash and amount.
abbrev pub PairsStand : Type 0
PairsStand = (ledger other : Ledger) (changes : List Hash32) (puzzle_hash : Hash32) (amount : ℕ) (except : List Hash32) →
    IsElsewhere ledger other changes puzzle_hash amount → unspent_of other puzzle_hash amount except ≡ unspent_of ledger puzzle_hash amount except
