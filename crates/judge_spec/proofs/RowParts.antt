-- The parts of the rows: coins, conditions, spends and a ledger.
use Rattle.std.proofs.Common.{ℕ, Some, None, List, [], ◌∷◌, map, replicate}
use Rattle.clvm_spec.specs.Tree.{Tree, Atom, Pair, nil, list_tree}
use Rattle.clvm_spec.specs.Spelling.{spelling}
use Rattle.clvm_spec.specs.Hashing.{tree_hash}
use Rattle.coin_facts.specs.declared.coin.Coin.{Coin}
use Rattle.coin_facts.specs.CoinId.{coin_id}
use Rattle.coin_facts.specs.Atoms.{number_atom}
use Rattle.block_spec.specs.declared.spend.Spend.{Spend}
use Rattle.chain_spec.specs.declared.chain.Record.{Record}
use Rattle.chain_spec.specs.Chain.{Ledger}
use Rattle.cond_spec.specs.declared.codes.TheConstants.{AGG_SIG_UNSAFE, CREATE_COIN, RESERVE_FEE, ASSERT_COIN_ANNOUNCEMENT, ASSERT_CONCURRENT_SPEND, SEND_MESSAGE, RECEIVE_MESSAGE, ASSERT_MY_AMOUNT, ASSERT_MY_BIRTH_HEIGHT, ASSERT_EPHEMERAL, ASSERT_HEIGHT_ABSOLUTE, ASSERT_BEFORE_HEIGHT_ABSOLUTE}
use Rattle.cond_spec.proofs.ConditionRows.{bytes32, hash, key, text, condition}
use Rattle.judge_spec.specs.Judgement.{Verdict, judgement}

-- ---- the parts

-- (q CONDITION ..)
abbrev pub quoting : List Tree → Tree
quoting conditions = Pair (Atom (1 ∷ [])) (list_tree conditions)

-- a spend of a coin with this puzzle
abbrev pub spend_by : Tree → ℕ → Spend
spend_by puzzle amount = record {
  coin = record { parent = hash 0; puzzle_hash = record { bytes = tree_hash puzzle }; amount = amount };
  puzzle = spelling puzzle;
  solution = spelling nil;
}

-- a spend of 1,000 mojos with these conditions
abbrev pub asks : List Tree → Spend
asks conditions = spend_by (quoting conditions) 1000

-- the peak has height 10 and 1,000 seconds
abbrev pub ledger : List Record → Ledger
ledger records = record { genesis = hash 0x11; peak = record { height = 10; hash = hash 0x22; seconds = 1000 }; records = records }

-- a coin of height 4 and 400 seconds
abbrev pub there : Spend → Record
there spend = record { coin = spend.coin; height = 4; seconds = 400; spent = None }

abbrev pub gone : Spend → Record
gone spend = record { coin = spend.coin; height = 4; seconds = 400; spent = Some 7 }

abbrev pub verdict : ℕ → List Record → List Spend → Verdict
verdict limit records spends = judgement (record { limit = limit }) (ledger records) spends []

-- with ample cost, on a chain that has all coins
abbrev pub on_chain : List Spend → Verdict
on_chain spends = verdict 11_000_000_000 (map there spends) spends

abbrev pub number : ℕ → List Tree
number n = number_atom n ∷ []

abbrev pub hash_operand : ℕ → List Tree
hash_operand byte = Atom (bytes32 byte) ∷ []

-- ---- conditions

abbrev pub pays : ℕ → Tree
pays amount = condition CREATE_COIN (Atom (bytes32 5) ∷ number_atom amount ∷ [])

abbrev pub wrong_amount : Tree
wrong_amount = condition ASSERT_MY_AMOUNT (number 999)

abbrev pub other_birth : Tree
other_birth = condition ASSERT_MY_BIRTH_HEIGHT (number 5)

abbrev pub early : Tree
early = condition ASSERT_HEIGHT_ABSOLUTE (number 11)

abbrev pub late : Tree
late = condition ASSERT_BEFORE_HEIGHT_ABSOLUTE (number 10)

abbrev pub unmade : Tree
unmade = condition ASSERT_COIN_ANNOUNCEMENT (hash_operand 6)

abbrev pub absent : Tree
absent = condition ASSERT_CONCURRENT_SPEND (hash_operand 6)

abbrev pub ephemeral : Tree
ephemeral = condition ASSERT_EPHEMERAL []

abbrev pub sends : Tree
sends = condition SEND_MESSAGE (nil ∷ Atom text ∷ [])

abbrev pub receives : Tree
receives = condition RECEIVE_MESSAGE (nil ∷ Atom text ∷ [])

abbrev pub reserves : ℕ → Tree
reserves amount = condition RESERVE_FEE (number amount)

abbrev pub signs : Tree
signs = condition AGG_SIG_UNSAFE (Atom key ∷ Atom text ∷ [])

abbrev pub malformed : Tree
malformed = condition CREATE_COIN []

abbrev pub unknown : Tree
unknown = condition 90 []

-- ---- puzzles

-- (x)
abbrev pub fails : Tree
fails = list_tree (Atom (8 ∷ []) ∷ [])

-- (+ (q . X)), where X has 17 bytes
abbrev pub wide : Tree
wide = list_tree (Atom (16 ∷ []) ∷ Pair (Atom (1 ∷ [])) (Atom (replicate 17 1)) ∷ [])

abbrev pub other_puzzle : Spend → Spend
other_puzzle spend = record spend { puzzle = spelling nil }

-- a spend that makes a coin of the puzzle that asks nothing, and the spend of that coin with these conditions
abbrev pub makes : List Tree → ℕ → Spend
makes conditions amount = asks (condition CREATE_COIN (Atom (tree_hash (quoting conditions)) ∷ number_atom amount ∷ []) ∷ [])

abbrev pub spends_made : List Tree → ℕ → Spend
spends_made conditions amount = record {
  coin = record { parent = coin_id (makes conditions amount).coin; puzzle_hash = record { bytes = tree_hash (quoting conditions) }; amount = amount };
  puzzle = spelling (quoting conditions);
  solution = spelling nil;
}

abbrev pub both : List Tree → Verdict
both conditions = verdict 11_000_000_000 (there (makes conditions 900) ∷ []) (makes conditions 900 ∷ spends_made conditions 900 ∷ [])

-- a spend that makes a coin and wants a pair signed, and the coin that it makes
abbrev pub made_and_signs : Spend
made_and_signs = asks (signs ∷ pays 900 ∷ [])

abbrev pub coin_of_signs : Coin
coin_of_signs = record { parent = coin_id made_and_signs.coin; puzzle_hash = hash 5; amount = 900 }
