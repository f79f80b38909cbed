-- The members of a JSON object of a session. Source: this project's own.
use Rattle.std.specs.Prelude.{ℕ, List, Bool, Option, Some, is_some, option_map, codes}
use Rattle.std.specs.Result.{result_ok}
use Rattle.hex.specs.Hex.{decode_of, decode_sized}
use Rattle.serde_json.specs.Data.{Data}
use Rattle.serde_json.specs.Find.{get, as_number, as_str, as_u64}
use Rattle.coin_facts.specs.declared.sizes.TheConstants.{HASH_BYTES}
use Rattle.coin_facts.specs.declared.hash32.Hash32.{Hash32}
use Rattle.coin_facts.specs.declared.coin.Coin.{Coin}
use Rattle.clvm_spec.specs.Spelled.{if_spelled}
use Rattle.session_spec.specs.Steps.{◌>>=◌}

abbrev pub has : List ℕ → Data → Bool
has name value = is_some (get name value)

-- the member of this name, as it is read
abbrev pub member : {A : Type 0} → List ℕ → (Data → Option A) → Data → Option A
member name read value = get name value >>= read

-- a JSON whole number of 0 to 2 ^ 64 - 1
abbrev pub whole : Data → Option ℕ
whole value = as_number value >>= as_u64

-- hexadecimal text in either case, of any number of bytes
abbrev pub text_bytes : List ℕ → Option (List ℕ)
text_bytes text = result_ok (decode_of text)

abbrev pub bytes : Data → Option (List ℕ)
bytes value = as_str value >>= text_bytes

-- the same of 32 bytes
abbrev pub text_hash : List ℕ → Option Hash32
text_hash text = option_map (λ digits. record { bytes = digits }) (result_ok (decode_sized text HASH_BYTES))

abbrev pub hash : Data → Option Hash32
hash value = as_str value >>= text_hash

-- the bytes of one spelled tree
abbrev pub code : Data → Option (List ℕ)
code value = bytes value >>= if_spelled

abbrev pub coin : Data → Option Coin
coin value = do
  parent ← member (codes "parent_coin_info") hash value
  puzzle_hash ← member (codes "puzzle_hash") hash value
  amount ← member (codes "amount") whole value
  Some (record { parent = parent; puzzle_hash = puzzle_hash; amount = amount })
