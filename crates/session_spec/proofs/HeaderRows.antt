-- Members of the session line and of coin lines at their borders, computed.
use Rattle.std.specs.Prelude.{List, [], ◌∷◌, ◌++◌, ◌≡◌, Some, None, codes, replicate, refl}
use Rattle.std.specs.Str.{is_utf8, chars}
use Rattle.std.specs.Char.{encode_utf8}
use Rattle.std.specs.Fmt.{digits}
use Rattle.bstr.proofs.Computing.{computing}
use Rattle.serde_json.proofs.OnLiterals.{serde_json_on_literals}
use Rattle.hex.proofs.OnLiterals.{hex_on_literals}
use Rattle.sha2.specs.Sha256.{sha256, digest_bytes, hash_after, compress, rounds, schedule, first_words}
use Rattle.clvm_spec.specs.Numbers.{without_sign_bytes, shortest_atom}
use Rattle.session_spec.specs.Sessions.{session_of, no_texts}
use Rattle.session_spec.specs.Values.{hexadecimal, is_name}
use Rattle.session_spec.proofs.LineParts.{digits as same_digits, zeros, first, session_line, coin_of, coin_line, one, told, tells, alone, behind}

-- The members are asked in their order.
order :
    alone (codes "{\"session\":2,\"genesis\":5}") "line 1 bad session"
    × alone (codes "{\"session\":1,\"seconds\":\"x\"}") "line 1 missing genesis"
    × alone (codes "{\"session\":1,\"genesis\":\"11\",\"seconds\":\"x\"}") "line 1 bad genesis"
    × alone (session_line "") "line 1 missing seconds"
    × alone (session_line ",\"lanes\":0") "line 1 missing seconds"
    × alone (session_line ",\"seconds\":\"0\",\"lanes\":0") "line 1 bad seconds"
    × alone (session_line ",\"seconds\":0,\"lanes\":0,\"max_cost\":0") "line 1 bad lanes"
    × alone (session_line ",\"seconds\":0,\"max_cost\":0,\"pool_cost\":-1") "line 1 bad max_cost"
    × alone (session_line ",\"seconds\":0,\"pool_cost\":-1,\"reward\":-1") "line 1 bad pool_cost"
unfolding is_utf8 chars encode_utf8 digits computing serde_json_on_literals hex_on_literals session_of
order = (refl, refl, refl, refl, refl, refl, refl, refl, refl)

-- Whole numbers are digits alone, of 64 bits.
numbers :
    alone (session_line ",\"seconds\":18446744073709551615,\"reward\":18446744073709551615") "good"
    × alone (session_line ",\"seconds\":18446744073709551616") "line 1 bad seconds"
    × alone (session_line ",\"seconds\":-0") "line 1 bad seconds"
    × alone (session_line ",\"seconds\":1.0") "line 1 bad seconds"
    × alone (session_line ",\"seconds\":1e3") "line 1 bad seconds"
    × alone (session_line ",\"seconds\":null") "line 1 bad seconds"
    × alone (session_line ",\"seconds\":0,\"lanes\":16,\"max_cost\":22000000000,\"pool_cost\":220000000000") "good"
    × alone (session_line ",\"seconds\":0,\"lanes\":1,\"max_cost\":1000000,\"pool_cost\":0") "good"
    × alone (session_line ",\"seconds\":0,\"lanes\":17") "line 1 bad lanes"
    × alone (session_line ",\"seconds\":0,\"max_cost\":999999") "line 1 bad max_cost"
    × alone (session_line ",\"seconds\":0,\"max_cost\":22000000001") "line 1 bad max_cost"
    × alone (session_line ",\"seconds\":0,\"pool_cost\":220000000001") "line 1 bad pool_cost"
unfolding is_utf8 chars encode_utf8 digits computing serde_json_on_literals hex_on_literals session_of
numbers = (refl, refl, refl, refl, refl, refl, refl, refl, refl, refl, refl, refl)

-- Hexadecimal is of either case, behind an optional `0x`.
texts :
    (hexadecimal (codes "0xAb0f") ≡ Some (171 ∷ 15 ∷ []))
    × (hexadecimal (codes "0x") ≡ Some [])
    × (hexadecimal (codes "0Xab") ≡ None)
    × (hexadecimal (codes "abc") ≡ None)
    × (hexadecimal (codes "0x0xab") ≡ None)
    × (hexadecimal (codes "ag") ≡ None)
unfolding hex_on_literals
texts = (refl, refl, refl, refl, refl, refl)

-- Coins: the object, then its members in their order, then the coin itself.
coins :
    behind "{\"coin\":[]}" "line 2 bad coin"
    × behind "{\"coin\":{\"puzzle_hash\":5}}" "line 2 missing parent_coin_info"
    × behind "{\"coin\":{\"parent_coin_info\":\"@a\"}}" "line 2 bad parent_coin_info"
    × tells (first ∷ (codes "{\"coin\":{\"parent_coin_info\":\"0x" ++ zeros ++ codes "\",\"amount\":-1}}") ∷ []) "line 2 missing puzzle_hash"
    × tells (first ∷ coin_line (codes "@") "-1" ∷ []) "line 2 bad puzzle_hash"
    × tells (first ∷ coin_line (codes "@A") "-1" ∷ []) "line 2 bad puzzle_hash"
    × tells (first ∷ coin_line (codes "@a") "-1" ∷ []) "line 2 unknown-name puzzle_hash"
    × tells (first ∷ coin_line one "-1" ∷ []) "line 2 bad amount"
    × tells (first ∷ coin_line one "1" ∷ (coin_line (codes "0x" ++ one) "1") ∷ []) "line 3 coin-twice"
    × tells (first ∷ coin_line one "1" ∷ coin_line one "2" ∷ []) "good"
unfolding is_utf8 chars encode_utf8 digits computing serde_json_on_literals hex_on_literals session_of sha256 digest_bytes hash_after compress rounds schedule first_words without_sign_bytes shortest_atom
coins = (refl, refl, refl, refl, refl, refl, refl, refl, refl, refl)
