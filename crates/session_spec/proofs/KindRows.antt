-- Lines that aren't JSON, no object, of no kind, out of order; lines that are passed over, computed.
use Rattle.std.specs.Prelude.{List, [], ◌∷◌, ◌++◌, ◌≡◌, codes, refl}
use Rattle.std.specs.Str.{is_utf8, chars}
use Rattle.std.specs.Char.{encode_utf8}
use Rattle.std.specs.Fmt.{digits}
use Rattle.bstr.proofs.Computing.{computing}
use Rattle.serde_json.proofs.OnLiterals.{serde_json_on_literals}
use Rattle.hex.proofs.OnLiterals.{hex_on_literals}
use Rattle.session_spec.specs.Sessions.{session_of, replay_of, no_texts}
use Rattle.session_spec.proofs.LineParts.{first, session_line, coin_line, one, told, input_of, tells, alone, behind}

kinds :
    behind "{" "line 2 not-json"
    × behind "{}{}" "line 2 not-json"
    × behind "{\"do\":\"peak\",\"x\":1e999}" "line 2 not-json"
    × behind "[]" "line 2 not-object"
    × behind "7" "line 2 not-object"
    × behind "{}" "line 2 unknown-kind"
    × behind "{\"lane\":0}" "line 2 unknown-kind"
    × behind "{\"do\":\"peak\",\"x\":[{}]}" "good"
unfolding is_utf8 chars encode_utf8 digits computing serde_json_on_literals hex_on_literals session_of
kinds = (refl, refl, refl, refl, refl, refl, refl, refl)

-- The kind is that of the first of the members that tell it, and what is out of order is told before any member.
order :
    alone (codes "{\"coin\":5}") "line 1 out-of-order"
    × alone (codes "{\"do\":\"peak\"}") "line 1 out-of-order"
    × tells (first ∷ first ∷ []) "line 2 out-of-order"
    × behind "{\"session\":2,\"coin\":5}" "line 2 out-of-order"
    × tells (first ∷ coin_line one "1" ∷ codes "{\"module\":5}" ∷ []) "line 3 out-of-order"
    × tells (first ∷ codes "{\"do\":\"peak\"}" ∷ codes "{\"coin\":5,\"do\":\"peak\"}" ∷ []) "line 3 out-of-order"
    × tells (first ∷ (codes "{\"singleton\":\"" ++ one ++ codes "\"}") ∷ codes "{\"singleton\":5}" ∷ []) "line 3 out-of-order"
    × behind "{\"singleton\":5,\"coin\":5}" "line 2 bad singleton"
unfolding is_utf8 chars encode_utf8 digits computing serde_json_on_literals hex_on_literals session_of
order = (refl, refl, refl, refl, refl, refl, refl, refl)

-- Blanks are passed over and counted. One CR before LF is dropped, and one at the end of the input isn't.
blanks :
    (told (session_of no_texts [] []) ≡ codes "line 1 missing session")
    × tells ([] ∷ codes " \t" ∷ codes "\r" ∷ []) "line 1 missing session"
    × tells (codes " " ∷ (first ++ codes "\r") ∷ [] ∷ codes "{" ∷ []) "line 4 not-json"
    × tells (first ∷ codes "\r\r" ∷ []) "line 2 not-json"
    × (told (session_of no_texts [] (input_of (first ∷ []) ++ codes "\r")) ≡ codes "line 2 not-json")
    × (told (session_of no_texts [] first) ≡ codes "good")
unfolding is_utf8 chars encode_utf8 digits computing serde_json_on_literals hex_on_literals session_of
blanks = (refl, refl, refl, refl, refl, refl)

-- Of a member that comes twice the last counts.
twice : alone (session_line ",\"seconds\":0,\"session\":2") "line 1 bad session" × alone (session_line ",\"seconds\":\"x\",\"seconds\":0") "good"
unfolding is_utf8 chars encode_utf8 digits computing serde_json_on_literals hex_on_literals session_of
twice = (refl, refl)
