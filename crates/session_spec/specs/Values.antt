-- What the values of members are read as, where they have the form. Source: JSON is that of RFC 8259 as the toolchain's reader
-- has it; the forms are this project's own.
use Rattle.std.specs.Prelude.{ℕ, ◌^◌, ◌-◌, ◌&&◌, ◌==◌, List, [], ◌∷◌, length, drop, nat_le, bytes_eq, Bool, false, Option, Some, None, codes, if◌then◌else◌}
use Rattle.std.specs.List.{list_all, list_any}
use Rattle.std.specs.Result.{result_ok}
use Rattle.hex.specs.Hex.{decode_of}
use Rattle.serde_json.specs.Data.{Data, Items, no_items, item}
use Rattle.serde_json.specs.Find.{as_array, as_number, as_str, as_u64}
use Rattle.clvm_spec.specs.Tokens.{has_hex_mark}
use Rattle.clvm_spec.specs.declared.limits.TheConstants.{MOST_SPELLED}
use Rattle.clvm_spec.specs.Spelled.{if_spelled}
use Rattle.coin_facts.specs.declared.sizes.TheConstants.{HASH_BYTES, KEY_BYTES}
use Rattle.coin_facts.specs.declared.hash32.Hash32.{Hash32}
use Rattle.block_spec.specs.declared.attested.Signed.{Signed}
use Rattle.session_spec.specs.declared.limits.TheConstants.{MOST_NAME}
use Rattle.session_spec.specs.Steps.{◌>>=◌, all_of, when}
use Rattle.session_spec.specs.Lines.{if_object}

-- ---- numbers

abbrev pub if_between : ℕ → ℕ → ℕ → Option ℕ
if_between least most n = when (nat_le least n && nat_le n most) n

-- a JSON whole number, digits alone, between two numbers
abbrev pub number_between : ℕ → ℕ → Data → Option ℕ
number_between least most value = as_number value >>= as_u64 >>= if_between least most

-- a whole number of 64 bits
abbrev pub whole_number : Data → Option ℕ
whole_number value = number_between 0 (2 ^ 64 - 1) value

-- ---- texts

abbrev pub is_text : List ℕ → Option (List ℕ) → Bool
is_text word None = false
is_text word (Some text) = bytes_eq text word

-- A name has 1 to 64 small letters, digits, `_` or `-`.
abbrev pub is_name_byte : ℕ → Bool
is_name_byte b = list_any (λ c. c == b) (codes "abcdefghijklmnopqrstuvwxyz0123456789_-")

abbrev pub is_name : List ℕ → Bool
is_name text = nat_le 1 (length text) && nat_le (length text) MOST_NAME && list_all is_name_byte text

abbrev pub module_name : Data → Option (List ℕ)
module_name value = as_str value >>= λ text. when (is_name text) text

-- hexadecimal text in either case, after an optional `0x`, of at most 67,108,864 bytes
abbrev pub without_hex_mark : List ℕ → List ℕ
without_hex_mark text = if has_hex_mark text then drop 2 text else text

abbrev pub if_few : List ℕ → Option (List ℕ)
if_few bytes = when (nat_le (length bytes) MOST_SPELLED) bytes

abbrev pub hexadecimal : List ℕ → Option (List ℕ)
hexadecimal text = result_ok (decode_of (without_hex_mark text)) >>= if_few

abbrev pub some_bytes : Data → Option (List ℕ)
some_bytes value = as_str value >>= hexadecimal

-- exactly so many bytes
abbrev pub exactly : ℕ → List ℕ → Option (List ℕ)
exactly count bytes = when (length bytes == count) bytes

abbrev pub text_of_hash : List ℕ → Option Hash32
text_of_hash text = hexadecimal text >>= exactly HASH_BYTES >>= λ bytes. Some (record { bytes = bytes })

-- 32 bytes, which no name may stand for
abbrev pub bytes_of_hash : Data → Option Hash32
bytes_of_hash value = as_str value >>= text_of_hash

-- the spelling of one tree
abbrev pub text_of_code : List ℕ → Option (List ℕ)
text_of_code text = hexadecimal text >>= if_spelled

-- ---- lists

abbrev pub values_of : Items → List Data
values_of no_items = []
values_of (item value values) = value ∷ values_of values

abbrev pub values : Data → Option (List Data)
values value = as_array value >>= λ items. Some (values_of items)

abbrev pub objects : Data → Option (List Data)
objects value = values value >>= all_of if_object

-- a list of a key of 48 bytes and a message
abbrev pub pair_of : List Data → Option Signed
pair_of (key ∷ message ∷ []) = do
  k ← some_bytes key >>= exactly KEY_BYTES
  m ← some_bytes message
  Some (record { key = k; message = m })
pair_of _ = None

abbrev pub attested_pairs : Data → Option (List Signed)
attested_pairs value = values value >>= all_of (λ pair. values pair >>= pair_of)
