-- The pairs of a key and a message that are to be signed. Source: Chia documentation of conditions.
use Rattle.std.specs.Prelude.{ℕ, pos, List, [], ◌∷◌, ◌++◌}
use Rattle.sha2.specs.Sha256.{sha256}
use Rattle.clvm_spec.specs.Numbers.{shortest_atom}
use Rattle.coin_facts.specs.declared.hash32.Hash32.{Hash32}
use Rattle.coin_facts.specs.declared.coin.Coin.{Coin}
use Rattle.coin_facts.specs.CoinId.{coin_id}
use Rattle.cond_spec.specs.declared.codes.TheConstants.{AGG_SIG_PARENT, AGG_SIG_PUZZLE, AGG_SIG_AMOUNT, AGG_SIG_PUZZLE_AMOUNT, AGG_SIG_PARENT_AMOUNT, AGG_SIG_PARENT_PUZZLE}
use Rattle.cond_spec.specs.declared.condition.Condition.{Condition}
use Rattle.cond_spec.specs.declared.condition.Condition.TheVariants.{AggSigParent, AggSigPuzzle, AggSigAmount, AggSigPuzzleAmount, AggSigParentAmount, AggSigParentPuzzle, AggSigUnsafe, AggSigMe}

pub record ToSign : Type 0 where
  pub key : List ℕ
  pub message : List ℕ

abbrev pub only : List ℕ → List ℕ → List ToSign
only key message = record { key = key; message = message } ∷ []

-- A message of this code and chain ends in the hash of the genesis data and the code.
abbrev pub bound : Hash32 → ℕ → List ℕ → List ℕ → List ToSign
bound genesis code key message = only key (message ++ sha256 (genesis.bytes ++ code ∷ []))

abbrev pub amount_bytes : Coin → List ℕ
amount_bytes coin = shortest_atom (pos coin.amount)

-- what a condition of a coin's spend wants signed, on a chain of this genesis data
abbrev pub to_sign : Hash32 → Coin → Condition → List ToSign
to_sign genesis coin (AggSigParent key text) = bound genesis AGG_SIG_PARENT key (text ++ coin.parent.bytes)
to_sign genesis coin (AggSigPuzzle key text) = bound genesis AGG_SIG_PUZZLE key (text ++ coin.puzzle_hash.bytes)
to_sign genesis coin (AggSigAmount key text) = bound genesis AGG_SIG_AMOUNT key (text ++ amount_bytes coin)
to_sign genesis coin (AggSigPuzzleAmount key text) = bound genesis AGG_SIG_PUZZLE_AMOUNT key (text ++ coin.puzzle_hash.bytes ++ amount_bytes coin)
to_sign genesis coin (AggSigParentAmount key text) = bound genesis AGG_SIG_PARENT_AMOUNT key (text ++ coin.parent.bytes ++ amount_bytes coin)
to_sign genesis coin (AggSigParentPuzzle key text) = bound genesis AGG_SIG_PARENT_PUZZLE key (text ++ coin.parent.bytes ++ coin.puzzle_hash.bytes)
to_sign genesis coin (AggSigUnsafe key text) = only key text
to_sign genesis coin (AggSigMe key text) = only key (text ++ (coin_id coin).bytes ++ genesis.bytes)
to_sign genesis coin _ = []
