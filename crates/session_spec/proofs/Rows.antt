-- The first sessions and what is written for them, and inputs that are no first session, computed.
use Rattle.std.specs.Prelude.{◌≡◌, ℕ, suc, List, [], ◌∷◌, Option, Some, None, option_map, refl, codes}
use Rattle.std.specs.Str.{is_utf8, chars}
use Rattle.std.specs.Char.{encode_utf8}
use Rattle.std.specs.Fmt.{digits}
use Rattle.bstr.proofs.Computing.{computing}
use Rattle.serde_json.proofs.OnLiterals.{serde_json_on_literals}
use Rattle.hex.proofs.OnLiterals.{hex_on_literals}
use Rattle.hex.specs.Hex.{encode_with}
use Rattle.sha2.specs.Sha256.{sha256, digest_bytes, hash_after, compress, rounds, schedule, first_words}
use Rattle.clvm_spec.specs.Reading.{head_at, tree_at_front}
use Rattle.clvm_spec.specs.Numbers.{without_sign_bytes, shortest_atom}
use Rattle.clvm_spec.specs.Evaluation.{evaluation}
use Rattle.block_spec.specs.BundleTree.{bundle_id}
use Rattle.cond_spec.specs.Conditions.{conditions_of}
use Rattle.judge_spec.specs.Facts.{facts_of}
use Rattle.judge_spec.specs.Judgement.{judgement}
use Rattle.pool_spec.specs.Admission.{PoolState}
use Rattle.pool_spec.specs.Step.{Command, reply_to, after}
use Rattle.pool_spec.specs.History.{Entry, opening}
use Rattle.session_spec.specs.FirstForm.{first_form_of}
use Rattle.session_spec.specs.Texts.{output_of}

-- the replies in order, none of them for want of memory
abbrev played : PoolState → ℕ → List Command → List Entry
played state number [] = []
played state number (command ∷ commands) = record { lane = 0; number = number; reply = reply_to state command } ∷ played (after state command) (suc number) commands

abbrev written : List ℕ → Option (List ℕ)
written input = option_map (λ session. output_of (played (opening session) 0 session.commands)) (first_form_of input)

first_example : written (codes "{\"session\":1,\"genesis\":\"1111111111111111111111111111111111111111111111111111111111111111\",\"seconds\":0}\n{\"coin\":{\"parent_coin_info\":\"0000000000000000000000000000000000000000000000000000000000000000\",\"puzzle_hash\":\"8009c552ce67831735d9e30ab7d2a637572438a11365ca9ea008a894176e774f\",\"amount\":1000}}\n{\"do\":\"admit\",\"bundle\":{\"coin_spends\":[{\"coin\":{\"parent_coin_info\":\"0000000000000000000000000000000000000000000000000000000000000000\",\"puzzle_hash\":\"8009c552ce67831735d9e30ab7d2a637572438a11365ca9ea008a894176e774f\",\"amount\":1000},\"puzzle_reveal\":\"ff01ffff33ffa09dcf97a184f32623d11a73124ceb99a5709b083721e878a16d78f596718ba7b2ff8203848080\",\"solution\":\"80\"}]}}\n{\"do\":\"coin\",\"id\":\"70e0b43d8c460ca5e619e8fa7a871989cb1939b7c4930d4f2d86ab376c2581e6\"}\n") ≡ Some (codes "0 0 0 admitted 0049f836c0a4eaf7a39ffe1bd3559fcc34785a8b7df3a5a1075880f92c0bf39e 100 2916020\n1 0 1 coin 0000000000000000000000000000000000000000000000000000000000000000 8009c552ce67831735d9e30ab7d2a637572438a11365ca9ea008a894176e774f 1000 0 0 -\nend 2\n")
unfolding first_form_of judgement facts_of conditions_of is_utf8 chars encode_utf8 computing serde_json_on_literals hex_on_literals sha256 digest_bytes hash_after compress rounds schedule first_words head_at tree_at_front without_sign_bytes shortest_atom evaluation bundle_id digits encode_with
first_example = refl

without_the_coin : written (codes "{\"session\":1,\"genesis\":\"1111111111111111111111111111111111111111111111111111111111111111\",\"seconds\":0}\n{\"do\":\"admit\",\"bundle\":{\"coin_spends\":[{\"coin\":{\"parent_coin_info\":\"0000000000000000000000000000000000000000000000000000000000000000\",\"puzzle_hash\":\"8009c552ce67831735d9e30ab7d2a637572438a11365ca9ea008a894176e774f\",\"amount\":1000},\"puzzle_reveal\":\"ff01ffff33ffa09dcf97a184f32623d11a73124ceb99a5709b083721e878a16d78f596718ba7b2ff8203848080\",\"solution\":\"80\"}]}}\n{\"do\":\"coin\",\"id\":\"70e0b43d8c460ca5e619e8fa7a871989cb1939b7c4930d4f2d86ab376c2581e6\"}\n") ≡ Some (codes "0 0 0 refused 11 0\n1 0 1 coin none\nend 2\n")
unfolding first_form_of judgement facts_of conditions_of is_utf8 chars encode_utf8 computing serde_json_on_literals hex_on_literals sha256 digest_bytes hash_after compress rounds schedule first_words head_at tree_at_front without_sign_bytes shortest_atom evaluation bundle_id digits encode_with
without_the_coin = refl

another_puzzle_hash : written (codes "{\"session\":1,\"genesis\":\"1111111111111111111111111111111111111111111111111111111111111111\",\"seconds\":0}\n{\"coin\":{\"parent_coin_info\":\"0000000000000000000000000000000000000000000000000000000000000000\",\"puzzle_hash\":\"9dcf97a184f32623d11a73124ceb99a5709b083721e878a16d78f596718ba7b2\",\"amount\":1000}}\n{\"do\":\"admit\",\"bundle\":{\"coin_spends\":[{\"coin\":{\"parent_coin_info\":\"0000000000000000000000000000000000000000000000000000000000000000\",\"puzzle_hash\":\"9dcf97a184f32623d11a73124ceb99a5709b083721e878a16d78f596718ba7b2\",\"amount\":1000},\"puzzle_reveal\":\"ff01ffff33ffa09dcf97a184f32623d11a73124ceb99a5709b083721e878a16d78f596718ba7b2ff8203848080\",\"solution\":\"80\"}]}}\n{\"do\":\"coin\",\"id\":\"beebc9b9c769d759ff96c7e14d68d199b440926902bd0a9bef17b73dc5b8ffa7\"}\n") ≡ Some (codes "0 0 0 refused 3 0\n1 0 1 coin 0000000000000000000000000000000000000000000000000000000000000000 9dcf97a184f32623d11a73124ceb99a5709b083721e878a16d78f596718ba7b2 1000 0 0 -\nend 2\n")
unfolding first_form_of judgement facts_of conditions_of is_utf8 chars encode_utf8 computing serde_json_on_literals hex_on_literals sha256 digest_bytes hash_after compress rounds schedule first_words head_at tree_at_front without_sign_bytes shortest_atom evaluation bundle_id digits encode_with
another_puzzle_hash = refl

spent_twice : written (codes "{\"session\":1,\"genesis\":\"1111111111111111111111111111111111111111111111111111111111111111\",\"seconds\":0}\n{\"coin\":{\"parent_coin_info\":\"0000000000000000000000000000000000000000000000000000000000000000\",\"puzzle_hash\":\"ba4484b961b7a2369d948d06c55b64bdbfaffb326bc13b490ab1215dd33d8d46\",\"amount\":1000}}\n{\"do\":\"admit\",\"bundle\":{\"coin_spends\":[{\"coin\":{\"parent_coin_info\":\"0000000000000000000000000000000000000000000000000000000000000000\",\"puzzle_hash\":\"ba4484b961b7a2369d948d06c55b64bdbfaffb326bc13b490ab1215dd33d8d46\",\"amount\":1000},\"puzzle_reveal\":\"ff0180\",\"solution\":\"80\"},{\"coin\":{\"parent_coin_info\":\"0000000000000000000000000000000000000000000000000000000000000000\",\"puzzle_hash\":\"ba4484b961b7a2369d948d06c55b64bdbfaffb326bc13b490ab1215dd33d8d46\",\"amount\":1000},\"puzzle_reveal\":\"ff0180\",\"solution\":\"80\"}]}}\n{\"do\":\"coin\",\"id\":\"2d4427969bd655dee9546c04b397f56a439504ba4f5a664bb5c97ca71b8da2f5\"}\n") ≡ Some (codes "0 0 0 refused 2 1\n1 0 1 coin 0000000000000000000000000000000000000000000000000000000000000000 ba4484b961b7a2369d948d06c55b64bdbfaffb326bc13b490ab1215dd33d8d46 1000 0 0 -\nend 2\n")
unfolding first_form_of judgement facts_of conditions_of is_utf8 chars encode_utf8 computing serde_json_on_literals hex_on_literals sha256 digest_bytes hash_after compress rounds schedule first_words head_at tree_at_front without_sign_bytes shortest_atom evaluation bundle_id digits encode_with
spent_twice = refl

no_last_line_feed : written (codes "{\"session\":1,\"genesis\":\"1111111111111111111111111111111111111111111111111111111111111111\",\"seconds\":0}\n{\"coin\":{\"parent_coin_info\":\"0000000000000000000000000000000000000000000000000000000000000000\",\"puzzle_hash\":\"8009c552ce67831735d9e30ab7d2a637572438a11365ca9ea008a894176e774f\",\"amount\":1000}}\n{\"do\":\"admit\",\"bundle\":{\"coin_spends\":[{\"coin\":{\"parent_coin_info\":\"0000000000000000000000000000000000000000000000000000000000000000\",\"puzzle_hash\":\"8009c552ce67831735d9e30ab7d2a637572438a11365ca9ea008a894176e774f\",\"amount\":1000},\"puzzle_reveal\":\"ff01ffff33ffa09dcf97a184f32623d11a73124ceb99a5709b083721e878a16d78f596718ba7b2ff8203848080\",\"solution\":\"80\"}]}}\n{\"do\":\"coin\",\"id\":\"70e0b43d8c460ca5e619e8fa7a871989cb1939b7c4930d4f2d86ab376c2581e6\"}") ≡ Some (codes "0 0 0 admitted 0049f836c0a4eaf7a39ffe1bd3559fcc34785a8b7df3a5a1075880f92c0bf39e 100 2916020\n1 0 1 coin 0000000000000000000000000000000000000000000000000000000000000000 8009c552ce67831735d9e30ab7d2a637572438a11365ca9ea008a894176e774f 1000 0 0 -\nend 2\n")
unfolding first_form_of judgement facts_of conditions_of is_utf8 chars encode_utf8 computing serde_json_on_literals hex_on_literals sha256 digest_bytes hash_after compress rounds schedule first_words head_at tree_at_front without_sign_bytes shortest_atom evaluation bundle_id digits encode_with
no_last_line_feed = refl

carriage_returns : written (codes "{\"session\":1,\"genesis\":\"1111111111111111111111111111111111111111111111111111111111111111\",\"seconds\":0}\r\n{\"coin\":{\"parent_coin_info\":\"0000000000000000000000000000000000000000000000000000000000000000\",\"puzzle_hash\":\"8009c552ce67831735d9e30ab7d2a637572438a11365ca9ea008a894176e774f\",\"amount\":1000}}\r\n{\"do\":\"admit\",\"bundle\":{\"coin_spends\":[{\"coin\":{\"parent_coin_info\":\"0000000000000000000000000000000000000000000000000000000000000000\",\"puzzle_hash\":\"8009c552ce67831735d9e30ab7d2a637572438a11365ca9ea008a894176e774f\",\"amount\":1000},\"puzzle_reveal\":\"ff01ffff33ffa09dcf97a184f32623d11a73124ceb99a5709b083721e878a16d78f596718ba7b2ff8203848080\",\"solution\":\"80\"}]}}\r\n{\"do\":\"coin\",\"id\":\"70e0b43d8c460ca5e619e8fa7a871989cb1939b7c4930d4f2d86ab376c2581e6\"}\r\n") ≡ Some (codes "0 0 0 admitted 0049f836c0a4eaf7a39ffe1bd3559fcc34785a8b7df3a5a1075880f92c0bf39e 100 2916020\n1 0 1 coin 0000000000000000000000000000000000000000000000000000000000000000 8009c552ce67831735d9e30ab7d2a637572438a11365ca9ea008a894176e774f 1000 0 0 -\nend 2\n")
unfolding first_form_of judgement facts_of conditions_of is_utf8 chars encode_utf8 computing serde_json_on_literals hex_on_literals sha256 digest_bytes hash_after compress rounds schedule first_words head_at tree_at_front without_sign_bytes shortest_atom evaluation bundle_id digits encode_with
carriage_returns = refl

attested_empty_list : written (codes "{\"session\":1,\"genesis\":\"1111111111111111111111111111111111111111111111111111111111111111\",\"seconds\":0}\n{\"coin\":{\"parent_coin_info\":\"0000000000000000000000000000000000000000000000000000000000000000\",\"puzzle_hash\":\"8009c552ce67831735d9e30ab7d2a637572438a11365ca9ea008a894176e774f\",\"amount\":1000}}\n{\"do\":\"admit\",\"bundle\":{\"coin_spends\":[{\"coin\":{\"parent_coin_info\":\"0000000000000000000000000000000000000000000000000000000000000000\",\"puzzle_hash\":\"8009c552ce67831735d9e30ab7d2a637572438a11365ca9ea008a894176e774f\",\"amount\":1000},\"puzzle_reveal\":\"ff01ffff33ffa09dcf97a184f32623d11a73124ceb99a5709b083721e878a16d78f596718ba7b2ff8203848080\",\"solution\":\"80\"}],\"attested\":[]}}\n{\"do\":\"coin\",\"id\":\"70e0b43d8c460ca5e619e8fa7a871989cb1939b7c4930d4f2d86ab376c2581e6\"}\n") ≡ Some (codes "0 0 0 admitted 0049f836c0a4eaf7a39ffe1bd3559fcc34785a8b7df3a5a1075880f92c0bf39e 100 2916020\n1 0 1 coin 0000000000000000000000000000000000000000000000000000000000000000 8009c552ce67831735d9e30ab7d2a637572438a11365ca9ea008a894176e774f 1000 0 0 -\nend 2\n")
unfolding first_form_of judgement facts_of conditions_of is_utf8 chars encode_utf8 computing serde_json_on_literals hex_on_literals sha256 digest_bytes hash_after compress rounds schedule first_words head_at tree_at_front without_sign_bytes shortest_atom evaluation bundle_id digits encode_with
attested_empty_list = refl

other_members : written (codes "{\"session\":1,\"genesis\":\"1111111111111111111111111111111111111111111111111111111111111111\",\"seconds\":0,\"note\":[1]}\n{\"coin\":{\"parent_coin_info\":\"0000000000000000000000000000000000000000000000000000000000000000\",\"puzzle_hash\":\"8009c552ce67831735d9e30ab7d2a637572438a11365ca9ea008a894176e774f\",\"amount\":1000}}\n{\"do\":\"admit\",\"bundle\":{\"coin_spends\":[{\"coin\":{\"parent_coin_info\":\"0000000000000000000000000000000000000000000000000000000000000000\",\"puzzle_hash\":\"8009c552ce67831735d9e30ab7d2a637572438a11365ca9ea008a894176e774f\",\"amount\":1000},\"puzzle_reveal\":\"ff01ffff33ffa09dcf97a184f32623d11a73124ceb99a5709b083721e878a16d78f596718ba7b2ff8203848080\",\"solution\":\"80\"}],\"aggregated_signature\":\"00\"}}\n{\"do\":\"coin\",\"id\":\"70e0b43d8c460ca5e619e8fa7a871989cb1939b7c4930d4f2d86ab376c2581e6\"}\n") ≡ Some (codes "0 0 0 admitted 0049f836c0a4eaf7a39ffe1bd3559fcc34785a8b7df3a5a1075880f92c0bf39e 100 2916020\n1 0 1 coin 0000000000000000000000000000000000000000000000000000000000000000 8009c552ce67831735d9e30ab7d2a637572438a11365ca9ea008a894176e774f 1000 0 0 -\nend 2\n")
unfolding first_form_of judgement facts_of conditions_of is_utf8 chars encode_utf8 computing serde_json_on_literals hex_on_literals sha256 digest_bytes hash_after compress rounds schedule first_words head_at tree_at_front without_sign_bytes shortest_atom evaluation bundle_id digits encode_with
other_members = refl

puzzle_that_is_run : written (codes "{\"session\":1,\"genesis\":\"1111111111111111111111111111111111111111111111111111111111111111\",\"seconds\":0}\n{\"coin\":{\"parent_coin_info\":\"0000000000000000000000000000000000000000000000000000000000000000\",\"puzzle_hash\":\"8009c552ce67831735d9e30ab7d2a637572438a11365ca9ea008a894176e774f\",\"amount\":1000}}\n{\"do\":\"admit\",\"bundle\":{\"coin_spends\":[{\"coin\":{\"parent_coin_info\":\"0000000000000000000000000000000000000000000000000000000000000000\",\"puzzle_hash\":\"8009c552ce67831735d9e30ab7d2a637572438a11365ca9ea008a894176e774f\",\"amount\":1000},\"puzzle_reveal\":\"01\",\"solution\":\"80\"}]}}\n{\"do\":\"coin\",\"id\":\"70e0b43d8c460ca5e619e8fa7a871989cb1939b7c4930d4f2d86ab376c2581e6\"}\n") ≡ None
unfolding first_form_of judgement facts_of conditions_of is_utf8 chars encode_utf8 computing serde_json_on_literals hex_on_literals sha256 digest_bytes hash_after compress rounds schedule first_words head_at tree_at_front without_sign_bytes shortest_atom evaluation bundle_id digits encode_with
puzzle_that_is_run = refl

blank_line : written (codes "{\"session\":1,\"genesis\":\"1111111111111111111111111111111111111111111111111111111111111111\",\"seconds\":0}\n\n{\"do\":\"admit\",\"bundle\":{\"coin_spends\":[{\"coin\":{\"parent_coin_info\":\"0000000000000000000000000000000000000000000000000000000000000000\",\"puzzle_hash\":\"8009c552ce67831735d9e30ab7d2a637572438a11365ca9ea008a894176e774f\",\"amount\":1000},\"puzzle_reveal\":\"ff01ffff33ffa09dcf97a184f32623d11a73124ceb99a5709b083721e878a16d78f596718ba7b2ff8203848080\",\"solution\":\"80\"}]}}\n") ≡ None
unfolding first_form_of judgement facts_of conditions_of is_utf8 chars encode_utf8 computing serde_json_on_literals hex_on_literals sha256 digest_bytes hash_after compress rounds schedule first_words head_at tree_at_front without_sign_bytes shortest_atom evaluation bundle_id digits encode_with
blank_line = refl

line_of_a_list : written (codes "{\"session\":1,\"genesis\":\"1111111111111111111111111111111111111111111111111111111111111111\",\"seconds\":0}\n[]\n{\"do\":\"admit\",\"bundle\":{\"coin_spends\":[{\"coin\":{\"parent_coin_info\":\"0000000000000000000000000000000000000000000000000000000000000000\",\"puzzle_hash\":\"8009c552ce67831735d9e30ab7d2a637572438a11365ca9ea008a894176e774f\",\"amount\":1000},\"puzzle_reveal\":\"ff01ffff33ffa09dcf97a184f32623d11a73124ceb99a5709b083721e878a16d78f596718ba7b2ff8203848080\",\"solution\":\"80\"}]}}\n") ≡ None
unfolding first_form_of judgement facts_of conditions_of is_utf8 chars encode_utf8 computing serde_json_on_literals hex_on_literals sha256 digest_bytes hash_after compress rounds schedule first_words head_at tree_at_front without_sign_bytes shortest_atom evaluation bundle_id digits encode_with
line_of_a_list = refl

no_json : written (codes "{\"session\":1,\"genesis\":\"1111111111111111111111111111111111111111111111111111111111111111\",\"seconds\":0}\n{\n{\"do\":\"admit\",\"bundle\":{\"coin_spends\":[{\"coin\":{\"parent_coin_info\":\"0000000000000000000000000000000000000000000000000000000000000000\",\"puzzle_hash\":\"8009c552ce67831735d9e30ab7d2a637572438a11365ca9ea008a894176e774f\",\"amount\":1000},\"puzzle_reveal\":\"ff01ffff33ffa09dcf97a184f32623d11a73124ceb99a5709b083721e878a16d78f596718ba7b2ff8203848080\",\"solution\":\"80\"}]}}\n") ≡ None
unfolding first_form_of judgement facts_of conditions_of is_utf8 chars encode_utf8 computing serde_json_on_literals hex_on_literals sha256 digest_bytes hash_after compress rounds schedule first_words head_at tree_at_front without_sign_bytes shortest_atom evaluation bundle_id digits encode_with
no_json = refl

lanes : written (codes "{\"session\":1,\"genesis\":\"1111111111111111111111111111111111111111111111111111111111111111\",\"seconds\":0,\"lanes\":1}\n{\"do\":\"admit\",\"bundle\":{\"coin_spends\":[{\"coin\":{\"parent_coin_info\":\"0000000000000000000000000000000000000000000000000000000000000000\",\"puzzle_hash\":\"8009c552ce67831735d9e30ab7d2a637572438a11365ca9ea008a894176e774f\",\"amount\":1000},\"puzzle_reveal\":\"ff01ffff33ffa09dcf97a184f32623d11a73124ceb99a5709b083721e878a16d78f596718ba7b2ff8203848080\",\"solution\":\"80\"}]}}\n") ≡ None
unfolding first_form_of judgement facts_of conditions_of is_utf8 chars encode_utf8 computing serde_json_on_literals hex_on_literals sha256 digest_bytes hash_after compress rounds schedule first_words head_at tree_at_front without_sign_bytes shortest_atom evaluation bundle_id digits encode_with
lanes = refl

max_cost : written (codes "{\"session\":1,\"genesis\":\"1111111111111111111111111111111111111111111111111111111111111111\",\"seconds\":0,\"max_cost\":11000000000}\n{\"do\":\"admit\",\"bundle\":{\"coin_spends\":[{\"coin\":{\"parent_coin_info\":\"0000000000000000000000000000000000000000000000000000000000000000\",\"puzzle_hash\":\"8009c552ce67831735d9e30ab7d2a637572438a11365ca9ea008a894176e774f\",\"amount\":1000},\"puzzle_reveal\":\"ff01ffff33ffa09dcf97a184f32623d11a73124ceb99a5709b083721e878a16d78f596718ba7b2ff8203848080\",\"solution\":\"80\"}]}}\n") ≡ None
unfolding first_form_of judgement facts_of conditions_of is_utf8 chars encode_utf8 computing serde_json_on_literals hex_on_literals sha256 digest_bytes hash_after compress rounds schedule first_words head_at tree_at_front without_sign_bytes shortest_atom evaluation bundle_id digits encode_with
max_cost = refl

pool_cost : written (codes "{\"session\":1,\"genesis\":\"1111111111111111111111111111111111111111111111111111111111111111\",\"seconds\":0,\"pool_cost\":110000000000}\n{\"do\":\"admit\",\"bundle\":{\"coin_spends\":[{\"coin\":{\"parent_coin_info\":\"0000000000000000000000000000000000000000000000000000000000000000\",\"puzzle_hash\":\"8009c552ce67831735d9e30ab7d2a637572438a11365ca9ea008a894176e774f\",\"amount\":1000},\"puzzle_reveal\":\"ff01ffff33ffa09dcf97a184f32623d11a73124ceb99a5709b083721e878a16d78f596718ba7b2ff8203848080\",\"solution\":\"80\"}]}}\n") ≡ None
unfolding first_form_of judgement facts_of conditions_of is_utf8 chars encode_utf8 computing serde_json_on_literals hex_on_literals sha256 digest_bytes hash_after compress rounds schedule first_words head_at tree_at_front without_sign_bytes shortest_atom evaluation bundle_id digits encode_with
pool_cost = refl

reward : written (codes "{\"session\":1,\"genesis\":\"1111111111111111111111111111111111111111111111111111111111111111\",\"seconds\":0,\"reward\":0}\n{\"do\":\"admit\",\"bundle\":{\"coin_spends\":[{\"coin\":{\"parent_coin_info\":\"0000000000000000000000000000000000000000000000000000000000000000\",\"puzzle_hash\":\"8009c552ce67831735d9e30ab7d2a637572438a11365ca9ea008a894176e774f\",\"amount\":1000},\"puzzle_reveal\":\"ff01ffff33ffa09dcf97a184f32623d11a73124ceb99a5709b083721e878a16d78f596718ba7b2ff8203848080\",\"solution\":\"80\"}]}}\n") ≡ None
unfolding first_form_of judgement facts_of conditions_of is_utf8 chars encode_utf8 computing serde_json_on_literals hex_on_literals sha256 digest_bytes hash_after compress rounds schedule first_words head_at tree_at_front without_sign_bytes shortest_atom evaluation bundle_id digits encode_with
reward = refl

module_line : written (codes "{\"session\":1,\"genesis\":\"1111111111111111111111111111111111111111111111111111111111111111\",\"seconds\":0}\n{\"module\":\"a\",\"source\":\"(mod (X) X)\"}\n{\"do\":\"admit\",\"bundle\":{\"coin_spends\":[{\"coin\":{\"parent_coin_info\":\"0000000000000000000000000000000000000000000000000000000000000000\",\"puzzle_hash\":\"8009c552ce67831735d9e30ab7d2a637572438a11365ca9ea008a894176e774f\",\"amount\":1000},\"puzzle_reveal\":\"ff01ffff33ffa09dcf97a184f32623d11a73124ceb99a5709b083721e878a16d78f596718ba7b2ff8203848080\",\"solution\":\"80\"}]}}\n") ≡ None
unfolding first_form_of judgement facts_of conditions_of is_utf8 chars encode_utf8 computing serde_json_on_literals hex_on_literals sha256 digest_bytes hash_after compress rounds schedule first_words head_at tree_at_front without_sign_bytes shortest_atom evaluation bundle_id digits encode_with
module_line = refl

singleton_line : written (codes "{\"session\":1,\"genesis\":\"1111111111111111111111111111111111111111111111111111111111111111\",\"seconds\":0}\n{\"singleton\":\"9dcf97a184f32623d11a73124ceb99a5709b083721e878a16d78f596718ba7b2\"}\n{\"do\":\"admit\",\"bundle\":{\"coin_spends\":[{\"coin\":{\"parent_coin_info\":\"0000000000000000000000000000000000000000000000000000000000000000\",\"puzzle_hash\":\"8009c552ce67831735d9e30ab7d2a637572438a11365ca9ea008a894176e774f\",\"amount\":1000},\"puzzle_reveal\":\"ff01ffff33ffa09dcf97a184f32623d11a73124ceb99a5709b083721e878a16d78f596718ba7b2ff8203848080\",\"solution\":\"80\"}]}}\n") ≡ None
unfolding first_form_of judgement facts_of conditions_of is_utf8 chars encode_utf8 computing serde_json_on_literals hex_on_literals sha256 digest_bytes hash_after compress rounds schedule first_words head_at tree_at_front without_sign_bytes shortest_atom evaluation bundle_id digits encode_with
singleton_line = refl

prefix_0x : written (codes "{\"session\":1,\"genesis\":\"1111111111111111111111111111111111111111111111111111111111111111\",\"seconds\":0}\n{\"coin\":{\"parent_coin_info\":\"0x0000000000000000000000000000000000000000000000000000000000000000\",\"puzzle_hash\":\"8009c552ce67831735d9e30ab7d2a637572438a11365ca9ea008a894176e774f\",\"amount\":1000}}\n{\"do\":\"admit\",\"bundle\":{\"coin_spends\":[{\"coin\":{\"parent_coin_info\":\"0000000000000000000000000000000000000000000000000000000000000000\",\"puzzle_hash\":\"8009c552ce67831735d9e30ab7d2a637572438a11365ca9ea008a894176e774f\",\"amount\":1000},\"puzzle_reveal\":\"ff01ffff33ffa09dcf97a184f32623d11a73124ceb99a5709b083721e878a16d78f596718ba7b2ff8203848080\",\"solution\":\"80\"}]}}\n") ≡ None
unfolding first_form_of judgement facts_of conditions_of is_utf8 chars encode_utf8 computing serde_json_on_literals hex_on_literals sha256 digest_bytes hash_after compress rounds schedule first_words head_at tree_at_front without_sign_bytes shortest_atom evaluation bundle_id digits encode_with
prefix_0x = refl

name_at : written (codes "{\"session\":1,\"genesis\":\"1111111111111111111111111111111111111111111111111111111111111111\",\"seconds\":0}\n{\"coin\":{\"parent_coin_info\":\"0000000000000000000000000000000000000000000000000000000000000000\",\"puzzle_hash\":\"@a\",\"amount\":1000}}\n{\"do\":\"admit\",\"bundle\":{\"coin_spends\":[{\"coin\":{\"parent_coin_info\":\"0000000000000000000000000000000000000000000000000000000000000000\",\"puzzle_hash\":\"8009c552ce67831735d9e30ab7d2a637572438a11365ca9ea008a894176e774f\",\"amount\":1000},\"puzzle_reveal\":\"ff01ffff33ffa09dcf97a184f32623d11a73124ceb99a5709b083721e878a16d78f596718ba7b2ff8203848080\",\"solution\":\"80\"}]}}\n") ≡ None
unfolding first_form_of judgement facts_of conditions_of is_utf8 chars encode_utf8 computing serde_json_on_literals hex_on_literals sha256 digest_bytes hash_after compress rounds schedule first_words head_at tree_at_front without_sign_bytes shortest_atom evaluation bundle_id digits encode_with
name_at = refl

two_coins_of_one_id : written (codes "{\"session\":1,\"genesis\":\"1111111111111111111111111111111111111111111111111111111111111111\",\"seconds\":0}\n{\"coin\":{\"parent_coin_info\":\"0000000000000000000000000000000000000000000000000000000000000000\",\"puzzle_hash\":\"8009c552ce67831735d9e30ab7d2a637572438a11365ca9ea008a894176e774f\",\"amount\":1000}}\n{\"coin\":{\"parent_coin_info\":\"0000000000000000000000000000000000000000000000000000000000000000\",\"puzzle_hash\":\"8009c552ce67831735d9e30ab7d2a637572438a11365ca9ea008a894176e774f\",\"amount\":1000}}\n{\"do\":\"admit\",\"bundle\":{\"coin_spends\":[{\"coin\":{\"parent_coin_info\":\"0000000000000000000000000000000000000000000000000000000000000000\",\"puzzle_hash\":\"8009c552ce67831735d9e30ab7d2a637572438a11365ca9ea008a894176e774f\",\"amount\":1000},\"puzzle_reveal\":\"ff01ffff33ffa09dcf97a184f32623d11a73124ceb99a5709b083721e878a16d78f596718ba7b2ff8203848080\",\"solution\":\"80\"}]}}\n") ≡ None
unfolding first_form_of judgement facts_of conditions_of is_utf8 chars encode_utf8 computing serde_json_on_literals hex_on_literals sha256 digest_bytes hash_after compress rounds schedule first_words head_at tree_at_front without_sign_bytes shortest_atom evaluation bundle_id digits encode_with
two_coins_of_one_id = refl

command_with_lane : written (codes "{\"session\":1,\"genesis\":\"1111111111111111111111111111111111111111111111111111111111111111\",\"seconds\":0}\n{\"coin\":{\"parent_coin_info\":\"0000000000000000000000000000000000000000000000000000000000000000\",\"puzzle_hash\":\"8009c552ce67831735d9e30ab7d2a637572438a11365ca9ea008a894176e774f\",\"amount\":1000}}\n{\"lane\":0,\"do\":\"admit\",\"bundle\":{\"coin_spends\":[{\"coin\":{\"parent_coin_info\":\"0000000000000000000000000000000000000000000000000000000000000000\",\"puzzle_hash\":\"8009c552ce67831735d9e30ab7d2a637572438a11365ca9ea008a894176e774f\",\"amount\":1000},\"puzzle_reveal\":\"ff01ffff33ffa09dcf97a184f32623d11a73124ceb99a5709b083721e878a16d78f596718ba7b2ff8203848080\",\"solution\":\"80\"}]}}\n") ≡ None
unfolding first_form_of judgement facts_of conditions_of is_utf8 chars encode_utf8 computing serde_json_on_literals hex_on_literals sha256 digest_bytes hash_after compress rounds schedule first_words head_at tree_at_front without_sign_bytes shortest_atom evaluation bundle_id digits encode_with
command_with_lane = refl

look_with_lane : written (codes "{\"session\":1,\"genesis\":\"1111111111111111111111111111111111111111111111111111111111111111\",\"seconds\":0}\n{\"coin\":{\"parent_coin_info\":\"0000000000000000000000000000000000000000000000000000000000000000\",\"puzzle_hash\":\"8009c552ce67831735d9e30ab7d2a637572438a11365ca9ea008a894176e774f\",\"amount\":1000}}\n{\"do\":\"admit\",\"bundle\":{\"coin_spends\":[{\"coin\":{\"parent_coin_info\":\"0000000000000000000000000000000000000000000000000000000000000000\",\"puzzle_hash\":\"8009c552ce67831735d9e30ab7d2a637572438a11365ca9ea008a894176e774f\",\"amount\":1000},\"puzzle_reveal\":\"ff01ffff33ffa09dcf97a184f32623d11a73124ceb99a5709b083721e878a16d78f596718ba7b2ff8203848080\",\"solution\":\"80\"}]}}\n{\"lane\":0,\"do\":\"coin\",\"id\":\"70e0b43d8c460ca5e619e8fa7a871989cb1939b7c4930d4f2d86ab376c2581e6\"}\n") ≡ None
unfolding first_form_of judgement facts_of conditions_of is_utf8 chars encode_utf8 computing serde_json_on_literals hex_on_literals sha256 digest_bytes hash_after compress rounds schedule first_words head_at tree_at_front without_sign_bytes shortest_atom evaluation bundle_id digits encode_with
look_with_lane = refl

no_admission : written (codes "{\"session\":1,\"genesis\":\"1111111111111111111111111111111111111111111111111111111111111111\",\"seconds\":0}\n{\"coin\":{\"parent_coin_info\":\"0000000000000000000000000000000000000000000000000000000000000000\",\"puzzle_hash\":\"8009c552ce67831735d9e30ab7d2a637572438a11365ca9ea008a894176e774f\",\"amount\":1000}}\n") ≡ None
unfolding first_form_of judgement facts_of conditions_of is_utf8 chars encode_utf8 computing serde_json_on_literals hex_on_literals sha256 digest_bytes hash_after compress rounds schedule first_words head_at tree_at_front without_sign_bytes shortest_atom evaluation bundle_id digits encode_with
no_admission = refl

look_alone : written (codes "{\"session\":1,\"genesis\":\"1111111111111111111111111111111111111111111111111111111111111111\",\"seconds\":0}\n{\"coin\":{\"parent_coin_info\":\"0000000000000000000000000000000000000000000000000000000000000000\",\"puzzle_hash\":\"8009c552ce67831735d9e30ab7d2a637572438a11365ca9ea008a894176e774f\",\"amount\":1000}}\n{\"do\":\"coin\",\"id\":\"70e0b43d8c460ca5e619e8fa7a871989cb1939b7c4930d4f2d86ab376c2581e6\"}\n") ≡ None
unfolding first_form_of judgement facts_of conditions_of is_utf8 chars encode_utf8 computing serde_json_on_literals hex_on_literals sha256 digest_bytes hash_after compress rounds schedule first_words head_at tree_at_front without_sign_bytes shortest_atom evaluation bundle_id digits encode_with
look_alone = refl

two_admissions : written (codes "{\"session\":1,\"genesis\":\"1111111111111111111111111111111111111111111111111111111111111111\",\"seconds\":0}\n{\"coin\":{\"parent_coin_info\":\"0000000000000000000000000000000000000000000000000000000000000000\",\"puzzle_hash\":\"8009c552ce67831735d9e30ab7d2a637572438a11365ca9ea008a894176e774f\",\"amount\":1000}}\n{\"do\":\"admit\",\"bundle\":{\"coin_spends\":[{\"coin\":{\"parent_coin_info\":\"0000000000000000000000000000000000000000000000000000000000000000\",\"puzzle_hash\":\"8009c552ce67831735d9e30ab7d2a637572438a11365ca9ea008a894176e774f\",\"amount\":1000},\"puzzle_reveal\":\"ff01ffff33ffa09dcf97a184f32623d11a73124ceb99a5709b083721e878a16d78f596718ba7b2ff8203848080\",\"solution\":\"80\"}]}}\n{\"do\":\"admit\",\"bundle\":{\"coin_spends\":[{\"coin\":{\"parent_coin_info\":\"0000000000000000000000000000000000000000000000000000000000000000\",\"puzzle_hash\":\"8009c552ce67831735d9e30ab7d2a637572438a11365ca9ea008a894176e774f\",\"amount\":1000},\"puzzle_reveal\":\"ff01ffff33ffa09dcf97a184f32623d11a73124ceb99a5709b083721e878a16d78f596718ba7b2ff8203848080\",\"solution\":\"80\"}]}}\n") ≡ None
unfolding first_form_of judgement facts_of conditions_of is_utf8 chars encode_utf8 computing serde_json_on_literals hex_on_literals sha256 digest_bytes hash_after compress rounds schedule first_words head_at tree_at_front without_sign_bytes shortest_atom evaluation bundle_id digits encode_with
two_admissions = refl

admission_after_a_look : written (codes "{\"session\":1,\"genesis\":\"1111111111111111111111111111111111111111111111111111111111111111\",\"seconds\":0}\n{\"coin\":{\"parent_coin_info\":\"0000000000000000000000000000000000000000000000000000000000000000\",\"puzzle_hash\":\"8009c552ce67831735d9e30ab7d2a637572438a11365ca9ea008a894176e774f\",\"amount\":1000}}\n{\"do\":\"coin\",\"id\":\"70e0b43d8c460ca5e619e8fa7a871989cb1939b7c4930d4f2d86ab376c2581e6\"}\n{\"do\":\"admit\",\"bundle\":{\"coin_spends\":[{\"coin\":{\"parent_coin_info\":\"0000000000000000000000000000000000000000000000000000000000000000\",\"puzzle_hash\":\"8009c552ce67831735d9e30ab7d2a637572438a11365ca9ea008a894176e774f\",\"amount\":1000},\"puzzle_reveal\":\"ff01ffff33ffa09dcf97a184f32623d11a73124ceb99a5709b083721e878a16d78f596718ba7b2ff8203848080\",\"solution\":\"80\"}]}}\n") ≡ None
unfolding first_form_of judgement facts_of conditions_of is_utf8 chars encode_utf8 computing serde_json_on_literals hex_on_literals sha256 digest_bytes hash_after compress rounds schedule first_words head_at tree_at_front without_sign_bytes shortest_atom evaluation bundle_id digits encode_with
admission_after_a_look = refl

no_spend : written (codes "{\"session\":1,\"genesis\":\"1111111111111111111111111111111111111111111111111111111111111111\",\"seconds\":0}\n{\"coin\":{\"parent_coin_info\":\"0000000000000000000000000000000000000000000000000000000000000000\",\"puzzle_hash\":\"8009c552ce67831735d9e30ab7d2a637572438a11365ca9ea008a894176e774f\",\"amount\":1000}}\n{\"do\":\"admit\",\"bundle\":{\"coin_spends\":[]}}\n") ≡ None
unfolding first_form_of judgement facts_of conditions_of is_utf8 chars encode_utf8 computing serde_json_on_literals hex_on_literals sha256 digest_bytes hash_after compress rounds schedule first_words head_at tree_at_front without_sign_bytes shortest_atom evaluation bundle_id digits encode_with
no_spend = refl

attested_pair : written (codes "{\"session\":1,\"genesis\":\"1111111111111111111111111111111111111111111111111111111111111111\",\"seconds\":0}\n{\"coin\":{\"parent_coin_info\":\"0000000000000000000000000000000000000000000000000000000000000000\",\"puzzle_hash\":\"8009c552ce67831735d9e30ab7d2a637572438a11365ca9ea008a894176e774f\",\"amount\":1000}}\n{\"do\":\"admit\",\"bundle\":{\"coin_spends\":[{\"coin\":{\"parent_coin_info\":\"0000000000000000000000000000000000000000000000000000000000000000\",\"puzzle_hash\":\"8009c552ce67831735d9e30ab7d2a637572438a11365ca9ea008a894176e774f\",\"amount\":1000},\"puzzle_reveal\":\"ff01ffff33ffa09dcf97a184f32623d11a73124ceb99a5709b083721e878a16d78f596718ba7b2ff8203848080\",\"solution\":\"80\"}],\"attested\":[[\"000000000000000000000000000000000000000000000000000000000000000000000000000000000000000000000000\",\"68\"]]}}\n") ≡ None
unfolding first_form_of judgement facts_of conditions_of is_utf8 chars encode_utf8 computing serde_json_on_literals hex_on_literals sha256 digest_bytes hash_after compress rounds schedule first_words head_at tree_at_front without_sign_bytes shortest_atom evaluation bundle_id digits encode_with
attested_pair = refl

other_condition : written (codes "{\"session\":1,\"genesis\":\"1111111111111111111111111111111111111111111111111111111111111111\",\"seconds\":0}\n{\"coin\":{\"parent_coin_info\":\"0000000000000000000000000000000000000000000000000000000000000000\",\"puzzle_hash\":\"8009c552ce67831735d9e30ab7d2a637572438a11365ca9ea008a894176e774f\",\"amount\":1000}}\n{\"do\":\"admit\",\"bundle\":{\"coin_spends\":[{\"coin\":{\"parent_coin_info\":\"0000000000000000000000000000000000000000000000000000000000000000\",\"puzzle_hash\":\"8009c552ce67831735d9e30ab7d2a637572438a11365ca9ea008a894176e774f\",\"amount\":1000},\"puzzle_reveal\":\"ff01ffff34ff018080\",\"solution\":\"80\"}]}}\n{\"do\":\"coin\",\"id\":\"70e0b43d8c460ca5e619e8fa7a871989cb1939b7c4930d4f2d86ab376c2581e6\"}\n") ≡ None
unfolding first_form_of judgement facts_of conditions_of is_utf8 chars encode_utf8 computing serde_json_on_literals hex_on_literals sha256 digest_bytes hash_after compress rounds schedule first_words head_at tree_at_front without_sign_bytes shortest_atom evaluation bundle_id digits encode_with
other_condition = refl

hash_of_31_bytes : written (codes "{\"session\":1,\"genesis\":\"1111111111111111111111111111111111111111111111111111111111111111\",\"seconds\":0}\n{\"coin\":{\"parent_coin_info\":\"0000000000000000000000000000000000000000000000000000000000000000\",\"puzzle_hash\":\"8009c552ce67831735d9e30ab7d2a637572438a11365ca9ea008a894176e774f\",\"amount\":1000}}\n{\"do\":\"admit\",\"bundle\":{\"coin_spends\":[{\"coin\":{\"parent_coin_info\":\"0000000000000000000000000000000000000000000000000000000000000000\",\"puzzle_hash\":\"8009c552ce67831735d9e30ab7d2a637572438a11365ca9ea008a894176e774f\",\"amount\":1000},\"puzzle_reveal\":\"ff01ffff33ff9f9dcf97a184f32623d11a73124ceb99a5709b083721e878a16d78f596718ba7ff018080\",\"solution\":\"80\"}]}}\n{\"do\":\"coin\",\"id\":\"70e0b43d8c460ca5e619e8fa7a871989cb1939b7c4930d4f2d86ab376c2581e6\"}\n") ≡ None
unfolding first_form_of judgement facts_of conditions_of is_utf8 chars encode_utf8 computing serde_json_on_literals hex_on_literals sha256 digest_bytes hash_after compress rounds schedule first_words head_at tree_at_front without_sign_bytes shortest_atom evaluation bundle_id digits encode_with
hash_of_31_bytes = refl

amount_not_shortest : written (codes "{\"session\":1,\"genesis\":\"1111111111111111111111111111111111111111111111111111111111111111\",\"seconds\":0}\n{\"coin\":{\"parent_coin_info\":\"0000000000000000000000000000000000000000000000000000000000000000\",\"puzzle_hash\":\"8009c552ce67831735d9e30ab7d2a637572438a11365ca9ea008a894176e774f\",\"amount\":1000}}\n{\"do\":\"admit\",\"bundle\":{\"coin_spends\":[{\"coin\":{\"parent_coin_info\":\"0000000000000000000000000000000000000000000000000000000000000000\",\"puzzle_hash\":\"8009c552ce67831735d9e30ab7d2a637572438a11365ca9ea008a894176e774f\",\"amount\":1000},\"puzzle_reveal\":\"ff01ffff33ffa09dcf97a184f32623d11a73124ceb99a5709b083721e878a16d78f596718ba7b2ff8200018080\",\"solution\":\"80\"}]}}\n{\"do\":\"coin\",\"id\":\"70e0b43d8c460ca5e619e8fa7a871989cb1939b7c4930d4f2d86ab376c2581e6\"}\n") ≡ None
unfolding first_form_of judgement facts_of conditions_of is_utf8 chars encode_utf8 computing serde_json_on_literals hex_on_literals sha256 digest_bytes hash_after compress rounds schedule first_words head_at tree_at_front without_sign_bytes shortest_atom evaluation bundle_id digits encode_with
amount_not_shortest = refl

amount_too_large : written (codes "{\"session\":1,\"genesis\":\"1111111111111111111111111111111111111111111111111111111111111111\",\"seconds\":0}\n{\"coin\":{\"parent_coin_info\":\"0000000000000000000000000000000000000000000000000000000000000000\",\"puzzle_hash\":\"8009c552ce67831735d9e30ab7d2a637572438a11365ca9ea008a894176e774f\",\"amount\":1000}}\n{\"do\":\"admit\",\"bundle\":{\"coin_spends\":[{\"coin\":{\"parent_coin_info\":\"0000000000000000000000000000000000000000000000000000000000000000\",\"puzzle_hash\":\"8009c552ce67831735d9e30ab7d2a637572438a11365ca9ea008a894176e774f\",\"amount\":1000},\"puzzle_reveal\":\"ff01ffff33ffa09dcf97a184f32623d11a73124ceb99a5709b083721e878a16d78f596718ba7b2ff890100000000000000008080\",\"solution\":\"80\"}]}}\n{\"do\":\"coin\",\"id\":\"70e0b43d8c460ca5e619e8fa7a871989cb1939b7c4930d4f2d86ab376c2581e6\"}\n") ≡ None
unfolding first_form_of judgement facts_of conditions_of is_utf8 chars encode_utf8 computing serde_json_on_literals hex_on_literals sha256 digest_bytes hash_after compress rounds schedule first_words head_at tree_at_front without_sign_bytes shortest_atom evaluation bundle_id digits encode_with
amount_too_large = refl

condition_of_four : written (codes "{\"session\":1,\"genesis\":\"1111111111111111111111111111111111111111111111111111111111111111\",\"seconds\":0}\n{\"coin\":{\"parent_coin_info\":\"0000000000000000000000000000000000000000000000000000000000000000\",\"puzzle_hash\":\"8009c552ce67831735d9e30ab7d2a637572438a11365ca9ea008a894176e774f\",\"amount\":1000}}\n{\"do\":\"admit\",\"bundle\":{\"coin_spends\":[{\"coin\":{\"parent_coin_info\":\"0000000000000000000000000000000000000000000000000000000000000000\",\"puzzle_hash\":\"8009c552ce67831735d9e30ab7d2a637572438a11365ca9ea008a894176e774f\",\"amount\":1000},\"puzzle_reveal\":\"ff01ffff33ffa09dcf97a184f32623d11a73124ceb99a5709b083721e878a16d78f596718ba7b2ff01ff808080\",\"solution\":\"80\"}]}}\n{\"do\":\"coin\",\"id\":\"70e0b43d8c460ca5e619e8fa7a871989cb1939b7c4930d4f2d86ab376c2581e6\"}\n") ≡ None
unfolding first_form_of judgement facts_of conditions_of is_utf8 chars encode_utf8 computing serde_json_on_literals hex_on_literals sha256 digest_bytes hash_after compress rounds schedule first_words head_at tree_at_front without_sign_bytes shortest_atom evaluation bundle_id digits encode_with
condition_of_four = refl

two_equal_coins : written (codes "{\"session\":1,\"genesis\":\"1111111111111111111111111111111111111111111111111111111111111111\",\"seconds\":0}\n{\"coin\":{\"parent_coin_info\":\"0000000000000000000000000000000000000000000000000000000000000000\",\"puzzle_hash\":\"8009c552ce67831735d9e30ab7d2a637572438a11365ca9ea008a894176e774f\",\"amount\":1000}}\n{\"do\":\"admit\",\"bundle\":{\"coin_spends\":[{\"coin\":{\"parent_coin_info\":\"0000000000000000000000000000000000000000000000000000000000000000\",\"puzzle_hash\":\"8009c552ce67831735d9e30ab7d2a637572438a11365ca9ea008a894176e774f\",\"amount\":1000},\"puzzle_reveal\":\"ff01ffff33ffa09dcf97a184f32623d11a73124ceb99a5709b083721e878a16d78f596718ba7b2ff0180ffff33ffa09dcf97a184f32623d11a73124ceb99a5709b083721e878a16d78f596718ba7b2ff018080\",\"solution\":\"80\"}]}}\n{\"do\":\"coin\",\"id\":\"70e0b43d8c460ca5e619e8fa7a871989cb1939b7c4930d4f2d86ab376c2581e6\"}\n") ≡ None
unfolding first_form_of judgement facts_of conditions_of is_utf8 chars encode_utf8 computing serde_json_on_literals hex_on_literals sha256 digest_bytes hash_after compress rounds schedule first_words head_at tree_at_front without_sign_bytes shortest_atom evaluation bundle_id digits encode_with
two_equal_coins = refl

same_created_id : written (codes "{\"session\":1,\"genesis\":\"1111111111111111111111111111111111111111111111111111111111111111\",\"seconds\":0}\n{\"coin\":{\"parent_coin_info\":\"0000000000000000000000000000000000000000000000000000000000000000\",\"puzzle_hash\":\"8009c552ce67831735d9e30ab7d2a637572438a11365ca9ea008a894176e774f\",\"amount\":1000}}\n{\"do\":\"admit\",\"bundle\":{\"coin_spends\":[{\"coin\":{\"parent_coin_info\":\"0000000000000000000000000000000000000000000000000000000000000000\",\"puzzle_hash\":\"8009c552ce67831735d9e30ab7d2a637572438a11365ca9ea008a894176e774f\",\"amount\":1000},\"puzzle_reveal\":\"ff01ffff33ffa09dcf97a184f32623d11a73124ceb99a5709b083721e878a16d78f596718ba7b2ff018080\",\"solution\":\"80\"},{\"coin\":{\"parent_coin_info\":\"0000000000000000000000000000000000000000000000000000000000000000\",\"puzzle_hash\":\"8009c552ce67831735d9e30ab7d2a637572438a11365ca9ea008a894176e774f\",\"amount\":1000},\"puzzle_reveal\":\"ff01ffff33ffa09dcf97a184f32623d11a73124ceb99a5709b083721e878a16d78f596718ba7b2ff018080\",\"solution\":\"80\"}]}}\n") ≡ None
unfolding first_form_of judgement facts_of conditions_of is_utf8 chars encode_utf8 computing serde_json_on_literals hex_on_literals sha256 digest_bytes hash_after compress rounds schedule first_words head_at tree_at_front without_sign_bytes shortest_atom evaluation bundle_id digits encode_with
same_created_id = refl

more_created_than_spent : written (codes "{\"session\":1,\"genesis\":\"1111111111111111111111111111111111111111111111111111111111111111\",\"seconds\":0}\n{\"coin\":{\"parent_coin_info\":\"0000000000000000000000000000000000000000000000000000000000000000\",\"puzzle_hash\":\"8009c552ce67831735d9e30ab7d2a637572438a11365ca9ea008a894176e774f\",\"amount\":1000}}\n{\"do\":\"admit\",\"bundle\":{\"coin_spends\":[{\"coin\":{\"parent_coin_info\":\"0000000000000000000000000000000000000000000000000000000000000000\",\"puzzle_hash\":\"8009c552ce67831735d9e30ab7d2a637572438a11365ca9ea008a894176e774f\",\"amount\":1000},\"puzzle_reveal\":\"ff01ffff33ffa09dcf97a184f32623d11a73124ceb99a5709b083721e878a16d78f596718ba7b2ff8203e98080\",\"solution\":\"80\"}]}}\n{\"do\":\"coin\",\"id\":\"70e0b43d8c460ca5e619e8fa7a871989cb1939b7c4930d4f2d86ab376c2581e6\"}\n") ≡ None
unfolding first_form_of judgement facts_of conditions_of is_utf8 chars encode_utf8 computing serde_json_on_literals hex_on_literals sha256 digest_bytes hash_after compress rounds schedule first_words head_at tree_at_front without_sign_bytes shortest_atom evaluation bundle_id digits encode_with
more_created_than_spent = refl

created_coin_is_there : written (codes "{\"session\":1,\"genesis\":\"1111111111111111111111111111111111111111111111111111111111111111\",\"seconds\":0}\n{\"coin\":{\"parent_coin_info\":\"0000000000000000000000000000000000000000000000000000000000000000\",\"puzzle_hash\":\"8009c552ce67831735d9e30ab7d2a637572438a11365ca9ea008a894176e774f\",\"amount\":1000}}\n{\"coin\":{\"parent_coin_info\":\"70e0b43d8c460ca5e619e8fa7a871989cb1939b7c4930d4f2d86ab376c2581e6\",\"puzzle_hash\":\"9dcf97a184f32623d11a73124ceb99a5709b083721e878a16d78f596718ba7b2\",\"amount\":900}}\n{\"do\":\"admit\",\"bundle\":{\"coin_spends\":[{\"coin\":{\"parent_coin_info\":\"0000000000000000000000000000000000000000000000000000000000000000\",\"puzzle_hash\":\"8009c552ce67831735d9e30ab7d2a637572438a11365ca9ea008a894176e774f\",\"amount\":1000},\"puzzle_reveal\":\"ff01ffff33ffa09dcf97a184f32623d11a73124ceb99a5709b083721e878a16d78f596718ba7b2ff8203848080\",\"solution\":\"80\"}]}}\n") ≡ None
unfolding first_form_of judgement facts_of conditions_of is_utf8 chars encode_utf8 computing serde_json_on_literals hex_on_literals sha256 digest_bytes hash_after compress rounds schedule first_words head_at tree_at_front without_sign_bytes shortest_atom evaluation bundle_id digits encode_with
created_coin_is_there = refl

puzzle_no_tree : written (codes "{\"session\":1,\"genesis\":\"1111111111111111111111111111111111111111111111111111111111111111\",\"seconds\":0}\n{\"coin\":{\"parent_coin_info\":\"0000000000000000000000000000000000000000000000000000000000000000\",\"puzzle_hash\":\"8009c552ce67831735d9e30ab7d2a637572438a11365ca9ea008a894176e774f\",\"amount\":1000}}\n{\"do\":\"admit\",\"bundle\":{\"coin_spends\":[{\"coin\":{\"parent_coin_info\":\"0000000000000000000000000000000000000000000000000000000000000000\",\"puzzle_hash\":\"8009c552ce67831735d9e30ab7d2a637572438a11365ca9ea008a894176e774f\",\"amount\":1000},\"puzzle_reveal\":\"ff01\",\"solution\":\"80\"}]}}\n{\"do\":\"coin\",\"id\":\"70e0b43d8c460ca5e619e8fa7a871989cb1939b7c4930d4f2d86ab376c2581e6\"}\n") ≡ None
unfolding first_form_of judgement facts_of conditions_of is_utf8 chars encode_utf8 computing serde_json_on_literals hex_on_literals sha256 digest_bytes hash_after compress rounds schedule first_words head_at tree_at_front without_sign_bytes shortest_atom evaluation bundle_id digits encode_with
puzzle_no_tree = refl

seconds_as_text : written (codes "{\"session\":1,\"genesis\":\"1111111111111111111111111111111111111111111111111111111111111111\",\"seconds\":\"0\"}\n{\"do\":\"admit\",\"bundle\":{\"coin_spends\":[{\"coin\":{\"parent_coin_info\":\"0000000000000000000000000000000000000000000000000000000000000000\",\"puzzle_hash\":\"8009c552ce67831735d9e30ab7d2a637572438a11365ca9ea008a894176e774f\",\"amount\":1000},\"puzzle_reveal\":\"ff01ffff33ffa09dcf97a184f32623d11a73124ceb99a5709b083721e878a16d78f596718ba7b2ff8203848080\",\"solution\":\"80\"}]}}\n") ≡ None
unfolding first_form_of judgement facts_of conditions_of is_utf8 chars encode_utf8 computing serde_json_on_literals hex_on_literals sha256 digest_bytes hash_after compress rounds schedule first_words head_at tree_at_front without_sign_bytes shortest_atom evaluation bundle_id digits encode_with
seconds_as_text = refl

session_two : written (codes "{\"session\":2,\"genesis\":\"1111111111111111111111111111111111111111111111111111111111111111\",\"seconds\":0}\n{\"do\":\"admit\",\"bundle\":{\"coin_spends\":[{\"coin\":{\"parent_coin_info\":\"0000000000000000000000000000000000000000000000000000000000000000\",\"puzzle_hash\":\"8009c552ce67831735d9e30ab7d2a637572438a11365ca9ea008a894176e774f\",\"amount\":1000},\"puzzle_reveal\":\"ff01ffff33ffa09dcf97a184f32623d11a73124ceb99a5709b083721e878a16d78f596718ba7b2ff8203848080\",\"solution\":\"80\"}]}}\n") ≡ None
unfolding first_form_of judgement facts_of conditions_of is_utf8 chars encode_utf8 computing serde_json_on_literals hex_on_literals sha256 digest_bytes hash_after compress rounds schedule first_words head_at tree_at_front without_sign_bytes shortest_atom evaluation bundle_id digits encode_with
session_two = refl

empty : written (codes "") ≡ None
unfolding first_form_of judgement facts_of conditions_of is_utf8 chars encode_utf8 computing serde_json_on_literals hex_on_literals sha256 digest_bytes hash_after compress rounds schedule first_words head_at tree_at_front without_sign_bytes shortest_atom evaluation bundle_id digits encode_with
empty = refl
