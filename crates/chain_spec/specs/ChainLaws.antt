-- Laws of chains and ledgers, each proved once for the crates above. They follow from the definitions.
use Rattle.std.specs.Prelude.{◌≡◌, ℕ, ◌==◌, ◌&&◌, List, map, Bool, true, false}
use Rattle.std.specs.List.{IsDistinct, list_any}
use Rattle.coin_facts.specs.declared.hash32.Hash32.{Hash32}
use Rattle.coin_facts.specs.CoinId.{coin_id}
use Rattle.coin_facts.specs.IdLists.{is_same_id, is_among}
use Rattle.chain_spec.specs.declared.chain.Record.{Record}
use Rattle.chain_spec.specs.Chain.{Ledger, Connected, Chain, records_of, look_up, after_block, touched_by}
use Rattle.chain_spec.specs.Soundness.{IsSound}
use Rattle.chain_spec.specs.Looks.{unspent_of, part_of}

abbrev pub ids_of : List Record → List Hash32
ids_of records = map (λ found. coin_id found.coin) records

-- The records of a sound chain have distinct ids.
abbrev pub RecordsAreApart : Type 0
RecordsAreApart = (chain : Chain) → IsSound chain → IsDistinct is_same_id (ids_of (records_of chain))

-- An id that a block doesn't touch has the same record before and after it.
abbrev pub UntouchedStand : Type 0
UntouchedStand = (ledger : Ledger) (block : Connected) (id : Hash32) → is_among (touched_by block) id ≡ false →
    look_up (after_block ledger block) id ≡ look_up ledger id

-- A part has the record of each id that was asked for, or none where there is none.
abbrev pub PartSufficesForIds : Type 0
PartSufficesForIds = (ids : List Hash32) (pairs : List (Hash32 × ℕ)) (ledger : Ledger) (id : Hash32) → is_among ids id ≡ true →
    look_up (part_of ids pairs ledger) id ≡ look_up ledger id

abbrev pub is_pair : Hash32 → ℕ → Hash32 × ℕ → Bool
is_pair puzzle_hash amount pair = is_same_id puzzle_hash pair.0 && (amount == pair.1)

-- A part has what there is unspent of each puzzle hash and amount that were asked for.
abbrev pub PartSufficesForPairs : Type 0
PartSufficesForPairs =
    (ids : List Hash32) (pairs : List (Hash32 × ℕ)) (ledger : Ledger) (puzzle_hash : Hash32) (amount : ℕ) (except : List Hash32)
    → list_any (is_pair puzzle_hash amount) pairs ≡ true
    → unspent_of (part_of ids pairs ledger) puzzle_hash amount except ≡ unspent_of ledger puzzle_hash amount except
