-- What is written for a replay, and which lines it takes, computed.
use Rattle.std.proofs.Common.{◌≡◌, ℕ, List, [], ◌∷◌, ◌++◌, Result, Ok, Err, codes, refl}
use Prim.Native.String.{String}
use Rattle.std.specs.Str.{is_utf8, chars}
use Rattle.std.specs.Char.{encode_utf8}
use Rattle.std.specs.Fmt.{digits}
use Rattle.bstr.proofs.Computing.{computing}
use Rattle.serde_json.proofs.OnLiterals.{serde_json_on_literals}
use Rattle.hex.proofs.OnLiterals.{hex_on_literals}
use Rattle.hex.specs.Hex.{encode_with}
use Rattle.sha2.specs.Sha256.{sha256, digest_bytes, hash_after, compress, rounds, schedule, first_words}
use Rattle.clvm_spec.specs.Numbers.{shortest_atom, without_sign_bytes}
use Rattle.clvm_spec.specs.Reading.{head_at, tree_at_front}
use Rattle.clvm_spec.specs.Evaluation.{evaluation}
use Rattle.block_spec.specs.BlockReading.{block_of}
use Rattle.cond_spec.specs.Conditions.{conditions_of}
use Rattle.judge_spec.specs.Facts.{facts_of}
use Rattle.judge_spec.specs.Judgement.{judgement}
use Rattle.session_spec.specs.Sessions.{replay_of}
use Rattle.session_spec.specs.Replays.{replay_output}
use Rattle.session_spec.proofs.LineParts.{digits as same_digits, one, first, session_line, coin_line, input_of}

-- a block without spends, on the genesis data of 11, with 100 seconds
abbrev block : List ℕ
block = codes "ffa0" ++ same_digits 49 ++ codes "ff01ff64ffa0" ++ same_digits 50 ++ codes "ffff01ff8080ff8080"

abbrev block_line : List ℕ → List ℕ
block_line bytes = codes "{\"do\":\"block\",\"bytes\":\"" ++ bytes ++ codes "\"}"

-- A block is accepted once; other bytes are broken at their place, and change nothing.
blocks :
    (replay_output (input_of (first ∷ coin_line one "1000" ∷ block_line (codes "80") ∷ block_line (codes "ff") ∷ block_line block ∷ block_line block ∷ []))
    ≡ Ok (codes "broken 40 0\nbroken 40 1\naccepted 1 9dd81d1956c1781c87c0e5c3e282438721b144d53b41942f03119ead8c44cc08 0 60000\nbroken 41 0\n"))
    × (replay_output (input_of (session_line ",\"seconds\":100" ∷ block_line block ∷ [])) ≡ Ok (codes "broken 42 0\n"))
    × (replay_output (input_of (first ∷ [])) ≡ Ok [])
unfolding is_utf8 chars encode_utf8 digits encode_with computing serde_json_on_literals hex_on_literals replay_of sha256 digest_bytes hash_after compress rounds schedule first_words without_sign_bytes shortest_atom head_at tree_at_front evaluation block_of conditions_of facts_of judgement
blocks = (refl, refl, refl)

abbrev refuses : List (List ℕ) → String → Type 0
refuses lines words = replay_output (input_of lines) ≡ Err (codes words)

-- Other lines are out of order before their members are asked.
lines :
    refuses (first ∷ codes "{\"module\":5}" ∷ []) "line 2 out-of-order"
    × refuses (first ∷ codes "{\"singleton\":5}" ∷ []) "line 2 out-of-order"
    × refuses (first ∷ codes "{\"do\":\"peak\",\"lane\":5}" ∷ []) "line 2 out-of-order"
    × refuses (first ∷ codes "{\"do\":5}" ∷ []) "line 2 out-of-order"
    × refuses (first ∷ codes "{\"do\":\"block\",\"lane\":1}" ∷ []) "line 2 bad lane"
    × refuses (first ∷ coin_line (codes "@a") "1" ∷ []) "line 2 unknown-name puzzle_hash"
    × refuses (block_line block ∷ []) "line 1 out-of-order"
    × refuses [] "line 1 missing session"
unfolding is_utf8 chars encode_utf8 digits encode_with computing serde_json_on_literals hex_on_literals replay_of
lines = (refl, refl, refl, refl, refl, refl, refl, refl)
