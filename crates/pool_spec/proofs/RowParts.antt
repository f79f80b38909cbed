-- The parts of the rows: singletons, payments, bundles and chains.
use Rattle.std.proofs.Common.{ℕ, Some, None, List, [], ◌∷◌}
use Rattle.clvm_spec.specs.Tree.{Tree, Atom, Pair, nil, list_tree}
use Rattle.clvm_spec.specs.Spelling.{spelling}
use Rattle.clvm_spec.specs.Hashing.{tree_hash}
use Rattle.clvm_spec.specs.Currying.{curried}
use Rattle.coin_facts.specs.declared.hash32.Hash32.{Hash32}
use Rattle.coin_facts.specs.declared.coin.Coin.{Coin}
use Rattle.coin_facts.specs.CoinId.{coin_id}
use Rattle.coin_facts.specs.Atoms.{number_atom}
use Rattle.block_spec.specs.declared.spend.Spend.{Spend}
use Rattle.block_spec.specs.declared.bundle.Bundle.{Bundle}
use Rattle.chain_spec.specs.declared.chain.Record.{Record}
use Rattle.cond_spec.specs.declared.codes.TheConstants.{CREATE_COIN}
use Rattle.cond_spec.proofs.ConditionRows.{bytes32, hash, condition}
use Rattle.judge_spec.specs.declared.limits.Limits.{Limits}
use Rattle.pool_spec.specs.Pool.{PoolState}

-- ---- singletons

-- the path of the solution's last element in (STRUCT INNER PROOF AMOUNT LAST)
abbrev pub last_of_five : Tree
last_of_five = Atom (47 ∷ [])

-- a top layer whose conditions are the last element of its solution
abbrev pub top_hash : Hash32
top_hash = record { bytes = tree_hash last_of_five }

-- (M . (L . Q))
abbrev pub struct_with : List ℕ → List ℕ → Tree
struct_with m l = Pair (Atom m) (Pair (Atom l) (Atom (bytes32 0x44)))

abbrev pub inner : Tree
inner = Atom (1 ∷ [])

abbrev pub layer : Tree
layer = curried last_of_five (struct_with top_hash.bytes (bytes32 0x33) ∷ inner ∷ [])

abbrev pub hash_of_puzzle : Tree → Hash32
hash_of_puzzle puzzle = record { bytes = tree_hash puzzle }

abbrev pub coin_of : Hash32 → Hash32 → ℕ → Coin
coin_of parent puzzle_hash amount = record { parent = parent; puzzle_hash = puzzle_hash; amount = amount }

-- (PP PI PA)
abbrev pub proof : Hash32 → List ℕ → ℕ → Tree
proof parent inner_hash amount = list_tree (Atom parent.bytes ∷ Atom inner_hash ∷ number_atom amount ∷ [])

-- a spend of a coin with this puzzle and solution
abbrev pub spend_with : Coin → Tree → Tree → Spend
spend_with coin puzzle solution = record { coin = coin; puzzle = spelling puzzle; solution = spelling solution }

-- the singleton's coin of this amount, whose parent has the other amount
abbrev pub parent_of : Tree → ℕ → Coin
parent_of puzzle amount = coin_of (hash 0) (hash_of_puzzle puzzle) amount

abbrev pub child_of : Tree → ℕ → ℕ → Coin
child_of puzzle parents amount = coin_of (coin_id (parent_of puzzle parents)) (hash_of_puzzle puzzle) amount

abbrev pub solution_with : Tree → ℕ → List Tree → Tree
solution_with first amount conditions = list_tree (first ∷ number_atom amount ∷ list_tree conditions ∷ [])

abbrev pub makes_coin : List ℕ → ℕ → Tree
makes_coin puzzle_hash amount = condition CREATE_COIN (Atom puzzle_hash ∷ number_atom amount ∷ [])

-- a puzzle curried with this struct
abbrev pub layer_by : Tree → Tree
layer_by struct = curried last_of_five (struct ∷ inner ∷ [])

-- a spend of the singleton's coin of 1 whose parent has 3
abbrev pub forward_with : Tree → Tree → List Tree → Spend
forward_with puzzle first conditions = spend_with (child_of puzzle 3 1) puzzle (solution_with first 1 conditions)

abbrev pub forward : Spend
forward = forward_with layer (proof (hash 0) (tree_hash inner) 3) (makes_coin (tree_hash layer) 1 ∷ [])

-- ---- records

abbrev pub there_coin : Coin → Record
there_coin coin = record { coin = coin; height = 4; seconds = 400; spent = None }

abbrev pub gone_coin : Coin → Record
gone_coin coin = record { coin = coin; height = 4; seconds = 400; spent = Some 7 }

-- ---- pools

abbrev pub limits : Limits
limits = record { max_cost = 11_000_000_000; pool_cost = 110_000_000_000; reward = 0; singleton = top_hash }

abbrev pub bundle : List Spend → Bundle
bundle spends = record { spends = spends; attested = [] }

-- the puzzle whose conditions are its solution
abbrev pub one : Tree
one = Atom (1 ∷ [])

abbrev pub one_hash : List ℕ
one_hash = tree_hash one

abbrev pub plain_coin : Hash32 → ℕ → Coin
plain_coin parent amount = coin_of parent (hash_of_puzzle one) amount

-- the spend of such a coin that makes a coin of this amount
abbrev pub pays_from : Coin → ℕ → Spend
pays_from coin amount = spend_with coin one (list_tree (makes_coin one_hash amount ∷ []))

-- the spend of such a coin that makes none
abbrev pub paid : Coin → Spend
paid coin = spend_with coin one nil

-- a chain with these coins and no block
abbrev pub start_state : Limits → List Coin → List Bundle → PoolState
start_state limits coins bundles =
    record { chain = record { genesis = hash 0x11; seconds = 0; coins = coins; blocks = [] }; limits = limits; bundles = bundles }
