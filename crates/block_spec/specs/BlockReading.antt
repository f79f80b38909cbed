-- The block that bytes stand for, or where they go wrong. Source: this project's own.
use Rattle.std.specs.Prelude.{ℕ, ◌^◌, List, [], ◌∷◌, length, Option, Some, None, Result, Err}
use Rattle.std.specs.Option.{ok_or}
use Rattle.clvm_spec.specs.Tree.{Tree, Atom, Pair}
use Rattle.clvm_spec.specs.ProperList.{elements}
use Rattle.clvm_spec.specs.Spelling.{spelling}
use Rattle.clvm_spec.specs.Hashing.{tree_hash}
use Rattle.clvm_spec.specs.Evaluation.{is_code}
use Rattle.clvm_spec.specs.OperatorTable.{quote_code}
use Rattle.clvm_spec.specs.Reading.{Flaw, Cut, LongSpelling, BadPrefix, Whole, IsTree, IsFlawed, IsLonger, whole_read}
use Rattle.coin_facts.specs.declared.hash32.Hash32.{Hash32}
use Rattle.coin_facts.specs.Steps.{◌>>=◌, all_of, when}
use Rattle.coin_facts.specs.Atoms.{atom_bytes, hash_of, key_of, number_below, amount_of}
use Rattle.block_spec.specs.declared.spend.Spend.{Spend}
use Rattle.block_spec.specs.declared.attested.Signed.{Signed}
use Rattle.block_spec.specs.declared.block.Block.{Block}

abbrev pub hash_of_tree : Tree → Hash32
hash_of_tree tree = record { bytes = tree_hash tree }

-- (parent puzzle amount solution): a spend of the coin whose puzzle hash is that puzzle's tree hash
abbrev pub spend_of_parts : List Tree → Option Spend
spend_of_parts (parent ∷ puzzle ∷ amount ∷ solution ∷ []) = do
  id ← hash_of parent
  n ← amount_of amount
  Some (record { coin = record { parent = id; puzzle_hash = hash_of_tree puzzle; amount = n }; puzzle = spelling puzzle; solution = spelling solution })
spend_of_parts _ = None

abbrev pub spend_of : Tree → Option Spend
spend_of tree = elements tree >>= spend_of_parts

-- (q ((parent puzzle amount solution) ..))
abbrev pub quoted : List Tree → Option Tree
quoted (quote ∷ value ∷ []) = when (is_code quote_code quote) value
quoted _ = None

abbrev pub spends_of : Tree → Option (List Spend)
spends_of tree = elements tree >>= quoted >>= elements >>= all_of spend_of

-- (key . message)
abbrev pub signed_of : Tree → Option Signed
signed_of (Pair first rest) = do
  key ← key_of first
  message ← atom_bytes rest
  Some (record { key = key; message = message })
signed_of (Atom bytes) = None

abbrev pub attested_of : Tree → Option (List Signed)
attested_of tree = elements tree >>= all_of signed_of

-- (previous height seconds reward_hash generator attested)
abbrev pub block_of_parts : List Tree → Option Block
block_of_parts (previous ∷ height ∷ seconds ∷ reward ∷ list ∷ pairs ∷ []) = do
  before ← hash_of previous
  at ← number_below (2 ^ 32) height
  time ← number_below (2 ^ 64) seconds
  hash ← hash_of reward
  spends ← spends_of list
  attested ← attested_of pairs
  Some (record { previous = before; height = at; seconds = time; reward_hash = hash; spends = spends; attested = attested })
block_of_parts _ = None

abbrev pub block_of_tree : Tree → Option Block
block_of_tree tree = elements tree >>= block_of_parts

-- Of bytes that are cut their number is told, of other flaws their place.
abbrev pub place_of_flaw : List ℕ → Flaw → ℕ → ℕ
place_of_flaw bytes Cut place = length bytes
place_of_flaw bytes LongSpelling place = place
place_of_flaw bytes BadPrefix place = place

-- Behind a whole tree the place of the first byte left is told, of a tree that is no block 0.
abbrev pub block_of_whole : List ℕ → Whole → Result Block ℕ
block_of_whole bytes (IsTree tree) = ok_or (block_of_tree tree) 0
block_of_whole bytes (IsFlawed flaw place) = Err (place_of_flaw bytes flaw place)
block_of_whole bytes (IsLonger place) = Err place

-- the block of bytes, or the place that rule 40 tells
unfoldable pub block_of : List ℕ → Result Block ℕ
block_of bytes = block_of_whole bytes (whole_read bytes)
