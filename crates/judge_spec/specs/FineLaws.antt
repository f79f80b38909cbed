-- What a Fine verdict says of a list of spends. It follows from the rules.
use Rattle.std.specs.Prelude.{◌≡◌, ℕ, ◌*◌, ◌^◌, ◌<◌, ◌≤◌, ◌||◌, List, length, map, Bool, true, not}
use Rattle.std.specs.List.{AllByRecursion, IsDistinct, list_all}
use Rattle.clvm_spec.specs.Hashing.{tree_hash}
use Rattle.clvm_spec.specs.Spelled.{spelled_tree}
use Rattle.coin_facts.specs.declared.hash32.Hash32.{Hash32}
use Rattle.coin_facts.specs.IdLists.{is_same_id, is_among}
use Rattle.block_spec.specs.declared.sizes.TheConstants.{EMPTY_GENERATOR_BYTES}
use Rattle.block_spec.specs.declared.spend.Spend.{Spend}
use Rattle.block_spec.specs.declared.attested.Signed.{Signed}
use Rattle.chain_spec.specs.Chain.{Ledger, look_up, is_in_chain}
use Rattle.chain_spec.specs.Soundness.{HasDistinctIds, is_unspent}
use Rattle.cond_spec.specs.Acts.{Acts, spent_ids, created_coins, created_ids, spent_amounts, created_amounts}
use Rattle.judge_spec.specs.declared.costs.TheConstants.{BYTE_COST}
use Rattle.judge_spec.specs.Facts.{Facts, acts_of}
use Rattle.judge_spec.specs.Checks.{Terms}
use Rattle.judge_spec.specs.Judgement.{Fine, spends_in, judgement, judgement_of_facts}
use Rattle.judge_spec.specs.JudgeLaws.{AreFound}

-- An id can be spent that is unspent in the chain, or that the list creates.
abbrev pub is_held : Ledger → List Acts → Hash32 → Bool
is_held ledger list id = is_unspent (look_up ledger id) || is_among (created_ids list) id

-- what a chain wants of the coins of a list of spends
pub record IsSpendable (ledger : Ledger) (list : List Acts) : Type 0 where
  pub spent_once : IsDistinct is_same_id (spent_ids list)
  pub held : list_all (is_held ledger list) (spent_ids list) ≡ true
  pub created_once : HasDistinctIds (created_coins list)
  pub new : list_all (λ id. not (is_in_chain ledger id)) (created_ids list) ≡ true
  pub covered : created_amounts list ≤ spent_amounts list

-- The coins of a Fine list are spent once, unspent or created, and made once; the created ones are new, and no more.
abbrev pub FineIsSpendable : Type 0
FineIsSpendable = (terms : Terms) (ledger : Ledger) (list : List Facts) (attested : List Signed) (cost fee : ℕ) →
    judgement_of_facts terms ledger list attested ≡ Fine cost fee → IsSpendable ledger (map acts_of list)

-- A list costs at least the bytes that its generator has without spends.
abbrev pub FineCostsSomething : Type 0
FineCostsSomething = (terms : Terms) (ledger : Ledger) (list : List Facts) (attested : List Signed) (cost fee : ℕ) →
    judgement_of_facts terms ledger list attested ≡ Fine cost fee → BYTE_COST * EMPTY_GENERATOR_BYTES ≤ cost

-- The fee of fewer than 2 ^ 32 spends of 64 bits each is below 2 ^ 96.
abbrev pub FineFeeFits : Type 0
FineFeeFits = (terms : Terms) (ledger : Ledger) (list : List Facts) (attested : List Signed) (cost fee : ℕ) →
    judgement_of_facts terms ledger list attested ≡ Fine cost fee →
    length list < 2 ^ 32 → AllByRecursion (λ facts. facts.spend.coin.amount < 2 ^ 64) list → fee < 2 ^ 96

-- the facts of spends, for which the verdict is the same
pub record IsFoundFine (terms : Terms) (ledger : Ledger) (spends : List Spend) (attested : List Signed) (cost fee : ℕ) : Type 0 where
  pub list : List Facts
  pub found : AreFound terms.limit list
  pub these : spends_in list ≡ spends
  pub fine : judgement_of_facts terms ledger list attested ≡ Fine cost fee

-- Facts are found of all spends of a Fine list.
abbrev pub FineHasFacts : Type 0
FineHasFacts = (terms : Terms) (ledger : Ledger) (spends : List Spend) (attested : List Signed) (cost fee : ℕ) →
    judgement terms ledger spends attested ≡ Fine cost fee → IsFoundFine terms ledger spends attested cost fee

-- Each puzzle is its coin's.
abbrev pub IsOwnPuzzle : Spend → Type 0
IsOwnPuzzle spend = tree_hash (spelled_tree spend.puzzle) ≡ spend.coin.puzzle_hash.bytes

abbrev pub FineHasItsPuzzles : Type 0
FineHasItsPuzzles = (terms : Terms) (ledger : Ledger) (spends : List Spend) (attested : List Signed) (cost fee : ℕ) →
    judgement terms ledger spends attested ≡ Fine cost fee → AllByRecursion IsOwnPuzzle spends
