-- A generated session of two commands, and the farm that is every eighth command, computed.
use Rattle.std.proofs.Common.{◌≡◌, ℕ, List, [], ◌∷◌, ◌++◌, true, false, codes, refl}
use Prim.Native.String.{String}
use Rattle.std.specs.Fmt.{digits}
use Rattle.hex.specs.Hex.{encode_with}
use Rattle.sha2.specs.Sha256.{sha256, digest_bytes, hash_after, compress, rounds, schedule, first_words}
use Rattle.clvm_spec.specs.Numbers.{shortest_atom, without_sign_bytes}
use Rattle.session_spec.specs.Making.{number_behind, is_farm, amount_of_coin, made_farm, generated_session}
use Rattle.session_spec.proofs.LineParts.{digits as same_digits, one, input_of}

-- a coin whose parent is zeros and this last digit
abbrev coin_of : String → String → List ℕ
coin_of last amount =
    codes "{\"parent_coin_info\":\"000000000000000000000000000000000000000000000000000000000000000" ++ codes last ++ codes "\",\"puzzle_hash\":\"" ++ one
    ++ codes "\",\"amount\":" ++ codes amount ++ codes "}"

abbrev admit_of : String → String → String → String → List ℕ
admit_of lane last amount paid =
    codes "{\"lane\":" ++ codes lane ++ codes ",\"do\":\"admit\",\"bundle\":{\"coin_spends\":[{\"coin\":" ++ coin_of last amount
    ++ codes ",\"puzzle_reveal\":\"01\",\"solution\":\"ffff33ffa0" ++ one ++ codes "ff" ++ codes paid ++ codes "8080\"}],\"aggregated_signature\":\"\"}}"

two_commands : generated_session 1 2 2 ≡ input_of
    ((codes "{\"session\":1,\"genesis\":\"" ++ same_digits 49 ++ codes "\",\"seconds\":0,\"lanes\":2}")
    ∷ (codes "{\"coin\":" ++ coin_of "0" "444766" ++ codes "}")
    ∷ (codes "{\"coin\":" ++ coin_of "1" "535152" ++ codes "}")
    ∷ admit_of "0" "0" "444766" "8306c8fa"
    ∷ admit_of "1" "1" "535152" "83082a0c"
    ∷ [])
unfolding generated_session digits encode_with sha256 digest_bytes hash_after compress rounds schedule first_words without_sign_bytes shortest_atom
two_commands = refl

farms :
    (is_farm 7 ≡ true) × (is_farm 6 ≡ false) × (is_farm 15 ≡ true)
    × (made_farm 7 ≡ codes "{\"lane\":0,\"do\":\"farm\",\"seconds\":800,\"reward_hash\":\"" ++ same_digits 50 ++ codes "\"}\n")
unfolding digits encode_with
farms = (refl, refl, refl, refl)
