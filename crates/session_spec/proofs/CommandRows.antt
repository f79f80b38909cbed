-- Commands: each word and its members, the members of a bundle in their order, computed.
use Rattle.std.proofs.Common.{◌≡◌, List, [], ◌∷◌, ◌++◌, codes, refl}
use Rattle.std.specs.Str.{is_utf8, chars}
use Rattle.std.specs.Char.{encode_utf8}
use Rattle.std.specs.Fmt.{digits}
use Rattle.bstr.proofs.Computing.{computing}
use Rattle.serde_json.proofs.OnLiterals.{serde_json_on_literals}
use Rattle.hex.proofs.OnLiterals.{hex_on_literals}
use Rattle.clvm_spec.specs.Reading.{head_at, tree_at_front}
use Rattle.session_spec.specs.Sessions.{session_of}
use Rattle.session_spec.proofs.LineParts.{first, session_line, zeros, one, spend_with, told, tells, behind}

words :
    behind "{\"do\":5,\"lane\":9}" "line 2 bad do"
    × behind "{\"do\":\"Peak\",\"lane\":9}" "line 2 bad do"
    × behind "{\"do\":\"peak\",\"lane\":1}" "line 2 bad lane"
    × behind "{\"do\":\"list\",\"lane\":0}" "good"
    × tells (session_line ",\"seconds\":0,\"lanes\":16" ∷ codes "{\"do\":\"peak\",\"lane\":15}" ∷ codes "{\"do\":\"peak\",\"lane\":16}" ∷ []) "line 3 bad lane"
    × behind "{\"do\":\"assemble\",\"lane\":-1}" "line 2 bad lane"
    × behind "{\"do\":\"assemble\",\"reward_hash\":5}" "line 2 missing seconds"
    × behind "{\"do\":\"farm\",\"seconds\":-1}" "line 2 bad seconds"
    × behind "{\"do\":\"farm\",\"seconds\":0}" "line 2 missing reward_hash"
    × behind "{\"do\":\"farm\",\"seconds\":0,\"reward_hash\":\"@a\"}" "line 2 unknown-name reward_hash"
    × tells (first ∷ (codes "{\"do\":\"farm\",\"seconds\":0,\"reward_hash\":\"" ++ one ++ codes "\"}") ∷ []) "good"
    × behind "{\"do\":\"block\"}" "line 2 missing bytes"
    × behind "{\"do\":\"block\",\"bytes\":\"8\"}" "line 2 bad bytes"
    × behind "{\"do\":\"block\",\"bytes\":\"\"}" "good"
    × behind "{\"do\":\"rollback\"}" "line 2 missing blocks"
    × behind "{\"do\":\"rollback\",\"blocks\":4294967295}" "good"
    × behind "{\"do\":\"rollback\",\"blocks\":4294967296}" "line 2 bad blocks"
    × behind "{\"do\":\"coin\"}" "line 2 missing id"
    × behind "{\"do\":\"coin\",\"id\":\"@a\"}" "line 2 bad id"
    × tells (first ∷ (codes "{\"do\":\"coin\",\"id\":\"0x" ++ zeros ++ codes "\"}") ∷ []) "good"
unfolding is_utf8 chars encode_utf8 digits computing serde_json_on_literals hex_on_literals session_of
words = (refl, refl, refl, refl, refl, refl, refl, refl, refl, refl, refl, refl, refl, refl, refl, refl, refl, refl, refl, refl)

-- That the spends are a list of objects is asked before their members.
bundles :
    behind "{\"do\":\"admit\"}" "line 2 missing bundle"
    × behind "{\"do\":\"admit\",\"bundle\":[]}" "line 2 bad bundle"
    × behind "{\"do\":\"admit\",\"bundle\":{\"attested\":5}}" "line 2 missing coin_spends"
    × behind "{\"do\":\"admit\",\"bundle\":{\"coin_spends\":{}}}" "line 2 bad coin_spends"
    × behind "{\"do\":\"admit\",\"bundle\":{\"coin_spends\":[{},5]}}" "line 2 bad coin_spends"
    × behind "{\"do\":\"admit\",\"bundle\":{\"coin_spends\":[{}],\"attested\":5}}" "line 2 missing coin"
    × tells (first ∷ spend_with "" ∷ []) "line 2 missing puzzle_reveal"
    × tells (first ∷ spend_with ",\"puzzle_reveal\":\"ff01\"" ∷ []) "line 2 bad puzzle_reveal"
    × tells (first ∷ spend_with ",\"puzzle_reveal\":\"@a\"" ∷ []) "line 2 unknown-name puzzle_reveal"
    × tells (first ∷ spend_with ",\"puzzle_reveal\":\"0x01\"" ∷ []) "line 2 missing solution"
    × tells (first ∷ spend_with ",\"puzzle_reveal\":\"01\",\"solution\":\"8080\"" ∷ []) "line 2 bad solution"
    × tells (first ∷ spend_with ",\"puzzle_reveal\":\"01\",\"solution\":\"80\"" ∷ []) "good"
    × behind "{\"do\":\"admit\",\"bundle\":{\"coin_spends\":[],\"attested\":[[]]}}" "line 2 bad attested"
    × behind "{\"do\":\"admit\",\"bundle\":{\"coin_spends\":[],\"attested\":[[\"00\",\"\"]]}}" "line 2 bad attested"
    × behind "{\"do\":\"admit\",\"bundle\":{\"coin_spends\":[],\"attested\":[[\"000000000000000000000000000000000000000000000000000000000000000000000000000000000000000000000000\",\"\"]]}}" "good"
    × behind "{\"do\":\"admit\",\"bundle\":{\"coin_spends\":[],\"attested\":[[\"000000000000000000000000000000000000000000000000000000000000000000000000000000000000000000000000\",\"\",\"\"]]}}" "line 2 bad attested"
    × behind "{\"do\":\"admit\",\"bundle\":{\"coin_spends\":[],\"aggregated_signature\":5}}" "good"
unfolding is_utf8 chars encode_utf8 digits computing serde_json_on_literals hex_on_literals session_of head_at tree_at_front
bundles = (refl, refl, refl, refl, refl, refl, refl, refl, refl, refl, refl, refl, refl, refl, refl, refl, refl)
