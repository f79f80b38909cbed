-- A session with all kinds of lines; what is written for it where its commands are answered in the order of their lines; the
-- words of each reply, computed.
use Rattle.std.proofs.Common.{◌≡◌, ℕ, List, [], ◌∷◌, ◌++◌, map, replicate, Bool, true, false, Some, None, Result, Ok, Err, codes, refl}
use Rattle.std.specs.Str.{is_utf8, chars}
use Rattle.std.specs.Char.{encode_utf8}
use Rattle.std.specs.Fmt.{digits}
use Rattle.bstr.proofs.Computing.{computing}
use Rattle.serde_json.proofs.OnLiterals.{serde_json_on_literals}
use Rattle.hex.proofs.OnLiterals.{hex_on_literals}
use Rattle.hex.specs.Hex.{encode_with}
use Rattle.sha2.specs.Sha256.{sha256, digest_bytes, hash_after, compress, rounds, schedule, first_words}
use Rattle.clvm_spec.specs.Numbers.{shortest_atom, without_sign_bytes}
use Rattle.clvm_spec.specs.OperatorTable.{applied, operator_of, operator_named}
use Rattle.clvm_spec.specs.Tokens.{token_of, word_token}
use Rattle.clvm_spec.specs.Reading.{head_at, tree_at_front}
use Rattle.clvm_spec.specs.Path.{followed}
use Rattle.clvm_spec.specs.Evaluation.{evaluation}
use Rattle.lisp_read.specs.Grammar.{forms_of}
use Rattle.lisp_spec.specs.Heads.{head_of, is_reserved}
use Rattle.lisp_spec.specs.MacroBodies.{body_head, body_value}
use Rattle.lisp_spec.specs.Expansion.{expanded_part}
use Rattle.lisp_spec.specs.BuiltIns.{built_in}
use Rattle.lisp_spec.specs.ExpressionWeights.{expression_weight}
use Rattle.block_spec.specs.BundleTree.{bundle_id}
use Rattle.block_spec.specs.BlockReading.{block_of}
use Rattle.cond_spec.specs.Conditions.{conditions_of}
use Rattle.judge_spec.specs.Facts.{facts_of}
use Rattle.judge_spec.specs.Judgement.{judgement, judgement_of_facts}
use Rattle.pool_spec.specs.Shape.{shape_of}
use Rattle.pool_spec.specs.Classes.{class_of}
use Rattle.pool_spec.specs.Fit.{fit_of}
use Rattle.pool_spec.specs.Prices.{priced}
use Rattle.pool_spec.specs.Pool.{PoolState, admission}
use Rattle.pool_spec.specs.Assembly.{filled, assembly}
use Rattle.coin_facts.specs.declared.hash32.Hash32.{Hash32}
use Rattle.coin_facts.specs.declared.coin.Coin.{Coin}
use Rattle.block_spec.specs.declared.bundle.Bundle.{Bundle}
use Rattle.clvm_spec.specs.Tree.{Atom}
use Rattle.clvm_spec.specs.Hashing.{tree_hash}
use Rattle.clvm_spec.specs.Spelled.{spelled_tree}
use Rattle.step_spec.specs.declared.header.Header.{Header}
use Rattle.step_spec.specs.declared.command.Command.{Command}
use Rattle.step_spec.specs.declared.command.Command.TheVariants as command
use Rattle.step_spec.specs.declared.reply.Reply.{Reply}
use Rattle.step_spec.specs.declared.reply.Reply.TheVariants as reply
use Rattle.step_spec.specs.declared.entry.Entry.{Entry}
use Rattle.step_spec.specs.Commands.{lane_of}
use Rattle.step_spec.specs.Steps.{step}
use Rattle.step_spec.specs.Histories.{done, start_state}
use Rattle.session_spec.specs.Sessions.{Session, Faulty, session_of, no_texts}
use Rattle.session_spec.specs.Outputs.{reply_words, session_output}
use Rattle.session_spec.proofs.LineParts.{digits as same_digits, zeros, one, session_line, coin_line, spend_with, input_of}

-- the entry of a command behind earlier ones, with this reply
abbrev entry_of : List Entry → Command → Reply → Entry
entry_of earlier command reply = record { lane = lane_of command; number = done earlier (lane_of command); reply = reply }

-- the history in which the commands are answered in the order of the lines, none of them for want of memory
abbrev played : List Entry → PoolState → List Command → List Entry
played earlier state [] = earlier
played earlier state (command ∷ commands) =
    let stepped = step state command in
    played (earlier ++ entry_of earlier command stepped.reply ∷ []) stepped.state commands

abbrev written : Bool → Session → List ℕ
written summary session = session_output summary session (played [] (start_state session.header session.coins) session.commands)

-- the code of the module `inc` below that the row has
inc_code : List ℕ
inc_code = 255 ∷ 16 ∷ 255 ∷ 2 ∷ 255 ∷ 255 ∷ 1 ∷ 1 ∷ 128 ∷ []

lines : List (List ℕ)
lines =
    session_line ",\"seconds\":0,\"lanes\":2,\"reward\":5"
    ∷ codes "{\"module\":\"inc\",\"source\":\"(mod (X) (+ X 1))\"}"
    ∷ codes "{\"module\":\"c\",\"curry\":\"@inc\",\"arguments\":[\"05\"]}"
    ∷ codes "{\"singleton\":\"@c\"}"
    ∷ coin_line one "1000"
    ∷ spend_with ",\"puzzle_reveal\":\"01\",\"solution\":\"80\""
    ∷ codes "{\"do\":\"list\"}"
    ∷ codes "{\"do\":\"rollback\",\"blocks\":1}"
    ∷ codes "{\"do\":\"farm\",\"lane\":1,\"seconds\":0,\"reward_hash\":\"@inc\"}"
    ∷ (codes "{\"do\":\"farm\",\"lane\":1,\"seconds\":100,\"reward_hash\":\"" ++ same_digits 50 ++ codes "\"}")
    ∷ (codes "{\"do\":\"coin\",\"id\":\"" ++ zeros ++ codes "\"}")
    ∷ codes "{\"do\":\"peak\"}"
    ∷ []

hash : ℕ → Hash32
hash byte = record { bytes = replicate 32 byte }

-- the tree hash of the program 01
one_hash : Hash32
one_hash = record { bytes = tree_hash (Atom (1 ∷ [])) }

inc_hash : Hash32
unfolding inc_code
inc_hash = record { bytes = tree_hash (spelled_tree inc_code) }

curried_inc : List ℕ
unfolding inc_code
curried_inc = (255 ∷ 2 ∷ 255 ∷ 255 ∷ 1 ∷ []) ++ inc_code ++ (255 ∷ 255 ∷ 4 ∷ 255 ∷ 255 ∷ 1 ∷ 5 ∷ 255 ∷ 1 ∷ 128 ∷ 128 ∷ [])

coin : Coin
unfolding hash one_hash
coin = record { parent = hash 0; puzzle_hash = one_hash; amount = 1000 }

bundle : Bundle
unfolding coin
bundle = record { spends = record { coin = coin; puzzle = 1 ∷ []; solution = 128 ∷ [] } ∷ []; attested = [] }

header : Header
unfolding hash curried_inc
header = record {
  genesis = hash 17;
  seconds = 0;
  lanes = 2;
  max_cost = 11_000_000_000;
  pool_cost = 110_000_000_000;
  reward = 5;
  singleton = record { bytes = tree_hash (spelled_tree curried_inc) };
}

commands : List Command
unfolding hash bundle inc_hash
commands =
    command.Admit 0 bundle ∷ command.List 0 ∷ command.Rollback 0 1 ∷ command.Farm 1 0 inc_hash ∷ command.Farm 1 100 (hash 34)
    ∷ command.Coin 0 (hash 0) ∷ command.Peak 0 ∷ []

-- a session's parts, without the module of a text
abbrev parts : Result Session Faulty → Result (Header × List (List ℕ × List ℕ) × List Coin × List Command) Faulty
parts (Ok session) = Ok (session.header, map (λ m. (m.name, m.code)) session.modules, session.coins, session.commands)
parts (Err faulty) = Err faulty

read : parts (session_of no_texts (inc_code ∷ []) (input_of lines))
    ≡ Ok (header, (codes "inc", inc_code) ∷ (codes "c", curried_inc) ∷ [], coin ∷ [], commands)
unfolding is_utf8 chars encode_utf8 digits encode_with computing serde_json_on_literals hex_on_literals session_of lines inc_code header coin bundle commands hash inc_hash curried_inc one_hash head_at tree_at_front sha256 digest_bytes hash_after compress rounds schedule first_words without_sign_bytes shortest_atom applied operator_of operator_named token_of word_token forms_of head_of is_reserved body_head body_value expanded_part built_in expression_weight
read = refl

-- ---- what is written

id : List ℕ
id = codes "b6a48dd504aefebbae70a4070e35058d2234dfe93cd58801d0f0d0e48fb3e7b4"

block_id : List ℕ
block_id = codes "1742b6ccf6f227fe3d948910578487cf9c23a6956a77ccebe0c2e7aa73571d4c"

block : List ℕ
block =
    codes "ffa0" ++ same_digits 49 ++ codes "ff01ff64ffa0" ++ same_digits 50 ++ codes "ffff01ffffffa0" ++ zeros ++ codes "ff01ff8203e8ff80808080ff8080"

-- the session, as if both codes were curried
session : Session
unfolding header coin commands inc_code curried_inc
session = record {
  header = header;
  modules = record { name = codes "inc"; source = None; code = inc_code } ∷ record { name = codes "c"; source = None; code = curried_inc } ∷ [];
  coins = coin ∷ [];
  commands = commands;
}

whole : written false session
    ≡ codes "code inc ff10ff02ffff010180\ncode c ff02ffff01ff10ff02ffff010180ffff04ffff0105ff018080\n0 0 0 admitted " ++ id
    ++ codes " 1000 588044\n1 0 1 pool 1 " ++ id ++ codes "\n2 0 2 refused 43 0\n3 1 0 refused 42 0\n4 1 1 farmed 1 " ++ block_id
    ++ codes " 1000 588044 " ++ block ++ codes "\n5 0 3 coin none\n6 0 4 peak 1 " ++ block_id ++ codes " 100\nend 7\n"
unfolding session header coin bundle commands hash inc_hash curried_inc one_hash block id block_id inc_code digits encode_with hex_on_literals head_at tree_at_front sha256 digest_bytes hash_after compress rounds schedule first_words without_sign_bytes shortest_atom operator_of applied followed evaluation conditions_of bundle_id block_of facts_of judgement judgement_of_facts shape_of class_of fit_of priced admission filled assembly step
whole = refl

summary : written true session ≡ codes "done 7 admitted 1 refused 2 farmed 1 memory 0\n"
unfolding session header coin bundle commands hash inc_hash curried_inc one_hash block id block_id inc_code digits encode_with hex_on_literals head_at tree_at_front sha256 digest_bytes hash_after compress rounds schedule first_words without_sign_bytes shortest_atom operator_of applied followed evaluation conditions_of bundle_id block_of facts_of judgement judgement_of_facts shape_of class_of fit_of priced admission filled assembly step
summary = refl

-- ---- each reply

replies :
    (reply_words (reply.Admitted (hash 0) 100 2892044 (hash 17 ∷ hash 34 ∷ [])) ≡ codes "admitted " ++ zeros ++ codes " 100 2892044 " ++ same_digits 49 ++ codes " " ++ same_digits 50)
    × (reply_words (reply.Block 0 60000 (255 ∷ 1 ∷ [])) ≡ codes "block 0 60000 ff01")
    × (reply_words (reply.Farmed 1 (hash 17) 0 60000 []) ≡ codes "farmed 1 " ++ same_digits 49 ++ codes " 0 60000 ")
    × (reply_words (reply.Peak 0 (hash 17) 7) ≡ codes "peak 0 " ++ same_digits 49 ++ codes " 7")
    × (reply_words reply.NoCoin ≡ codes "coin none")
    × (reply_words (reply.Coin (hash 0) (hash 17) 1000 0 7 None) ≡ codes "coin " ++ zeros ++ codes " " ++ same_digits 49 ++ codes " 1000 0 7 -")
    × (reply_words (reply.Coin (hash 0) (hash 17) 0 3 7 (Some 3)) ≡ codes "coin " ++ zeros ++ codes " " ++ same_digits 49 ++ codes " 0 3 7 3")
    × (reply_words (reply.Pool []) ≡ codes "pool 0")
    × (reply_words (reply.Refused 43 0) ≡ codes "refused 43 0")
    × (reply_words reply.Memory ≡ codes "memory")
unfolding hash digits encode_with
replies = (refl, refl, refl, refl, refl, refl, refl, refl, refl, refl)
