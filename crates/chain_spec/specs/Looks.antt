-- Unspent coins by puzzle hash and amount, and the part of a ledger that some looks need. Source: this project's own.
use Rattle.std.specs.Prelude.{ℕ, ◌==◌, ◌&&◌, ◌||◌, List, [], ◌∷◌, Bool, not, is_none, filter}
use Rattle.std.specs.List.{list_any}
use Rattle.coin_facts.specs.declared.hash32.Hash32.{Hash32}
use Rattle.coin_facts.specs.CoinId.{coin_id}
use Rattle.coin_facts.specs.IdLists.{is_same_id, is_among}
use Rattle.chain_spec.specs.declared.chain.Record.{Record}
use Rattle.chain_spec.specs.declared.chain.Unspent.{Unspent}
use Rattle.chain_spec.specs.declared.chain.Unspent.TheVariants as unspent
use Rattle.chain_spec.specs.Chain.{Ledger}

abbrev pub is_unspent_of : Hash32 → ℕ → Record → Bool
is_unspent_of puzzle_hash amount found =
    is_same_id found.coin.puzzle_hash puzzle_hash && (found.coin.amount == amount) && is_none found.spent

abbrev pub is_outside : List Hash32 → Record → Bool
is_outside except found = not (is_among except (coin_id found.coin))

-- none, the one, or several
abbrev pub unspent_in : List Record → Unspent
unspent_in [] = unspent.None
unspent_in (found ∷ []) = unspent.One (coin_id found.coin)
unspent_in (found ∷ other ∷ more) = unspent.Many

-- what there is of unspent coins of this puzzle hash and amount, whose ids aren't among the excepted ones
abbrev pub unspent_of : Ledger → Hash32 → ℕ → List Hash32 → Unspent
unspent_of ledger puzzle_hash amount except =
    unspent_in (filter (is_outside except) (filter (is_unspent_of puzzle_hash amount) ledger.records))

abbrev pub is_of_pair : Record → Hash32 × ℕ → Bool
is_of_pair found pair = is_unspent_of pair.0 pair.1 found

abbrev pub is_asked : List Hash32 → List (Hash32 × ℕ) → Record → Bool
is_asked ids pairs found = is_among ids (coin_id found.coin) || list_any (is_of_pair found) pairs

-- the records of these ids, and all unspent ones of these puzzle hashes and amounts
abbrev pub part_of : List Hash32 → List (Hash32 × ℕ) → Ledger → Ledger
part_of ids pairs ledger = record ledger { records = filter (is_asked ids pairs) ledger.records }
