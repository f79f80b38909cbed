-- The chain, and the ledger of its coin records. Source: Chia documentation of the coin set; that a start coin has height 0
-- and the session's seconds is this project's own.
use Rattle.std.specs.Prelude.{ℕ, suc, List, [], ◌∷◌, ◌++◌, Bool, Option, Some, None, map, is_some, if◌then◌else◌}
use Rattle.std.specs.List.{find}
use Rattle.coin_facts.specs.declared.hash32.Hash32.{Hash32}
use Rattle.coin_facts.specs.declared.coin.Coin.{Coin}
use Rattle.coin_facts.specs.CoinId.{coin_id}
use Rattle.coin_facts.specs.IdLists.{has_id, is_among}
use Rattle.chain_spec.specs.declared.chain.Record.{Record}
use Rattle.chain_spec.specs.declared.chain.Peak.{Peak}

-- ---- what judging looks at

-- the genesis data, the newest block, and the records of all coins, in the order in which they came
pub record Ledger : Type 0 where
  pub genesis : Hash32
  pub peak : Peak
  pub records : List Record

-- the record of the coin with this id
abbrev pub look_up : Ledger → Hash32 → Option Record
look_up ledger id = find (λ found. has_id id found.coin) ledger.records

abbrev pub is_in_chain : Ledger → Hash32 → Bool
is_in_chain ledger id = is_some (look_up ledger id)

-- ---- blocks

-- a block as the chain has it: what it spends, and all coins that it creates
pub record Connected : Type 0 where
  pub hash : Hash32
  pub seconds : ℕ
  pub spent : List Hash32
  pub created : List Coin

-- the ids whose records a block makes or alters, in the order of the changes
abbrev pub touched_by : Connected → List Hash32
touched_by block = block.spent ++ map coin_id block.created

abbrev pub made_at : ℕ → ℕ → Coin → Record
made_at height seconds coin = record { coin = coin; height = height; seconds = seconds; spent = None }

abbrev pub spent_at : ℕ → List Hash32 → Record → Record
spent_at height spent found = if is_among spent (coin_id found.coin) then record found { spent = Some height } else found

-- The new coins come last. A coin that the block creates and spends is made and spent at its height.
abbrev pub with_block : ℕ → Connected → List Record → List Record
with_block height block records = map (spent_at height block.spent) (records ++ map (made_at height block.seconds) block.created)

abbrev pub next_peak : Peak → Connected → Peak
next_peak peak block = record { height = suc peak.height; hash = block.hash; seconds = block.seconds }

-- the ledger after one block more
abbrev pub after_block : Ledger → Connected → Ledger
after_block ledger block =
    record ledger { peak = next_peak ledger.peak block; records = with_block (suc ledger.peak.height) block ledger.records }

abbrev pub after_blocks : Ledger → List Connected → Ledger
after_blocks ledger [] = ledger
after_blocks ledger (block ∷ blocks) = after_blocks (after_block ledger block) blocks

-- ---- chains

-- the genesis data, the seconds and the coins that a chain begins with, and its blocks, the first one first
pub record Chain : Type 0 where
  pub genesis : Hash32
  pub seconds : ℕ
  pub coins : List Coin
  pub blocks : List Connected

-- Start coins have height 0 and the chain's seconds. At height 0 the peak's hash is the genesis data.
abbrev pub start_record : ℕ → Coin → Record
start_record seconds coin = made_at 0 seconds coin

abbrev pub start_ledger : Chain → Ledger
start_ledger chain = record {
  genesis = chain.genesis;
  peak = record { height = 0; hash = chain.genesis; seconds = chain.seconds };
  records = map (start_record chain.seconds) chain.coins;
}

-- what one gets by walking all blocks from the first
abbrev pub ledger_of : Chain → Ledger
ledger_of chain = after_blocks (start_ledger chain) chain.blocks

abbrev pub records_of : Chain → List Record
records_of chain = (ledger_of chain).records

abbrev pub peak_of : Chain → Peak
peak_of chain = (ledger_of chain).peak
