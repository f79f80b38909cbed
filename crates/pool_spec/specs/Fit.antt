-- The fit of a bundle: its Forward spends moved onto the newest coins of their singletons. Source: after
-- `fast_forward_singleton` of chia_rs; which spends are moved, and onto what, is this project's own.
use Rattle.std.specs.Prelude.{ℕ, ◌==◌, ◌&&◌, ◌||◌, List, [], ◌∷◌, ◌++◌, map, filter, find, Bool, not, Option, option_map, Result, Ok, Err, if◌then◌else◌}
use Rattle.std.specs.List.{list_all}
use Rattle.std.specs.Option.{option_or}
use Rattle.clvm_spec.specs.Tree.{Tree, Atom, list_tree}
use Rattle.clvm_spec.specs.Spelling.{spelling}
use Rattle.coin_facts.specs.declared.hash32.Hash32.{Hash32}
use Rattle.coin_facts.specs.declared.coin.Coin.{Coin}
use Rattle.coin_facts.specs.CoinId.{coin_id}
use Rattle.coin_facts.specs.IdLists.{is_same_id, has_id, is_among}
use Rattle.coin_facts.specs.Atoms.{number_atom}
use Rattle.block_spec.specs.declared.spend.Spend.{Spend}
use Rattle.block_spec.specs.declared.bundle.Bundle.{Bundle}
use Rattle.chain_spec.specs.Chain.{Ledger, look_up}
use Rattle.chain_spec.specs.Soundness.{is_unspent}
use Rattle.chain_spec.specs.Looks.{is_unspent_of}
use Rattle.cond_spec.specs.Acts.{spent_ids, created_coins}
use Rattle.judge_spec.specs.declared.class.Class.{Class}
use Rattle.judge_spec.specs.declared.class.Class.TheVariants.{Plain, Same, Forward}
use Rattle.judge_spec.specs.declared.limits.Limits.{Limits}
use Rattle.judge_spec.specs.Facts.{Facts, acts_of}
use Rattle.pool_spec.specs.declared.lineage.Lineage.{Lineage}
use Rattle.pool_spec.specs.Shape.{where_found, where_held, Proof, Solution, Shape, shape_of}
use Rattle.pool_spec.specs.Classes.{class_of}

-- ---- spends that are taken already

pub record Taken : Type 0 where
  pub spent : List Hash32
  pub created : List Coin

abbrev pub nothing_taken : Taken
nothing_taken = record { spent = []; created = [] }

abbrev pub taken_of : List Facts → Taken
taken_of list = record { spent = spent_ids (map acts_of list); created = created_coins (map acts_of list) }

-- The coin is unspent in the chain or created by the taken spends, and these don't spend it.
abbrev pub is_left : Ledger → Taken → Hash32 → Bool
is_left ledger taken id =
    (is_unspent (look_up ledger id) || is_among (map coin_id taken.created) id) && not (is_among taken.spent id)

-- ---- lineage

-- the chain's unspent coins of a puzzle hash and amount
abbrev pub unspent_coins : Ledger → Hash32 → ℕ → List Coin
unspent_coins ledger puzzle_hash amount = map (λ found. found.coin) (filter (is_unspent_of puzzle_hash amount) ledger.records)

abbrev pub is_coin_of : Hash32 → ℕ → Coin → Bool
is_coin_of puzzle_hash amount coin = is_same_id coin.puzzle_hash puzzle_hash && (coin.amount == amount)

-- those that are unspent after the chain and the taken spends
abbrev pub coins_left : Ledger → Taken → Hash32 → ℕ → List Coin
coins_left ledger taken puzzle_hash amount =
    filter (λ coin. not (is_among taken.spent (coin_id coin)))
    (unspent_coins ledger puzzle_hash amount ++ filter (is_coin_of puzzle_hash amount) taken.created)

-- Check 1: there is no such coin. Check 2: there are several. Coins of one id are one coin.
abbrev pub only_coin : List Coin → Result Coin ℕ
only_coin [] = Err 1
only_coin (coin ∷ others) = where_held 2 (list_all (has_id (coin_id coin)) others) (Ok coin)

-- a coin of the chain, or one that the taken spends create
abbrev pub coin_of_id : Ledger → Taken → Hash32 → Option Coin
coin_of_id ledger taken id = option_or (option_map (λ found. found.coin) (look_up ledger id)) (find (has_id id) taken.created)

-- Check 3: the one's parent is neither in the chain nor created in the taken spends. Check 4: its puzzle hash differs.
abbrev pub with_parent : Ledger → Taken → Hash32 → Result Coin ℕ → Result Lineage ℕ
with_parent ledger taken puzzle_hash (Err number) = Err number
with_parent ledger taken puzzle_hash (Ok coin) =
    where_found 3 (coin_of_id ledger taken coin.parent) (λ parent.
    where_held 4 (is_same_id parent.puzzle_hash puzzle_hash) (Ok (record { coin = coin; parent = parent })))

-- the one coin of a puzzle hash and amount and its parent, or the first check that is broken
abbrev pub lineage_of : Ledger → Taken → Hash32 → ℕ → Result Lineage ℕ
lineage_of ledger taken puzzle_hash amount =
    with_parent ledger taken puzzle_hash (only_coin (coins_left ledger taken puzzle_hash amount))

-- ---- rewrite

-- (PP PI PA)
abbrev pub proof_tree : Proof → Tree
proof_tree proof = list_tree (Atom proof.parent.bytes ∷ Atom proof.inner.bytes ∷ number_atom proof.amount ∷ [])

-- (PROOF AMOUNT LAST)
abbrev pub solution_tree : ℕ → Solution → Tree
solution_tree amount solution = list_tree (proof_tree solution.proof ∷ number_atom amount ∷ solution.last ∷ [])

-- The proof gets the parent's parent and the parent's amount.
abbrev pub moved_solution : Solution → Coin → Solution
moved_solution solution parent =
    record solution { proof = record solution.proof { parent = parent.parent; amount = parent.amount } }

-- the spend of the new coin, with that proof and the coin's amount
abbrev pub rewritten : Shape → Lineage → Spend
rewritten shape lineage = record {
  coin = lineage.coin;
  puzzle = shape.spend.puzzle;
  solution = spelling (solution_tree lineage.coin.amount (moved_solution shape.solution lineage.parent));
}

-- ---- fit

-- Where there is no lineage the spend stays as it is.
abbrev pub moved_onto : Spend → Result Shape ℕ → Result Lineage ℕ → Spend
moved_onto spend (Ok shape) (Ok lineage) = rewritten shape lineage
moved_onto spend (Ok shape) (Err number) = spend
moved_onto spend (Err number) found = spend

-- A spend whose coin isn't unspent after chain and taken spends is moved.
abbrev pub moved : Limits → Ledger → Taken → Spend → Spend
moved limits ledger taken spend =
    if is_left ledger taken (coin_id spend.coin) then spend else
    moved_onto spend (shape_of limits.max_cost limits.singleton spend)
    (lineage_of ledger taken spend.coin.puzzle_hash spend.coin.amount)

-- Forward spends alone are moved.
abbrev pub fit_by_class : Limits → Ledger → Taken → Class → Spend → Spend
fit_by_class limits ledger taken Forward spend = moved limits ledger taken spend
fit_by_class limits ledger taken Same spend = spend
fit_by_class limits ledger taken Plain spend = spend

-- the fit of a bundle to the chain and the taken spends, place by place
unfoldable pub fit_of : Limits → Ledger → Taken → Bundle → List Spend
fit_of limits ledger taken bundle =
    map (λ spend. fit_by_class limits ledger taken (class_of limits bundle.spends spend) spend) bundle.spends
