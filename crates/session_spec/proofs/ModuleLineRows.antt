-- Module lines and singleton lines: texts, curried codes, names, and what too many or too large is, computed.
use Rattle.std.proofs.Common.{◌≡◌, ℕ, List, [], ◌∷◌, ◌++◌, length, map, replicate, true, false, None, Result, Ok, Err, codes, ap, refl, if◌then◌else◌}
use Rattle.std.specs.Str.{is_utf8, chars}
use Rattle.std.specs.Char.{encode_utf8}
use Rattle.std.specs.Fmt.{digits}
use Rattle.bstr.proofs.Computing.{computing}
use Rattle.serde_json.proofs.OnLiterals.{serde_json_on_literals}
use Rattle.hex.proofs.OnLiterals.{hex_on_literals}
use Rattle.clvm_spec.specs.Numbers.{shortest_atom, without_sign_bytes}
use Rattle.clvm_spec.specs.OperatorTable.{applied, operator_of, operator_named}
use Rattle.clvm_spec.specs.Tokens.{token_of, word_token}
use Rattle.clvm_spec.specs.Reading.{head_at, tree_at_front}
use Rattle.sha2.specs.Sha256.{sha256, digest_bytes, hash_after, compress, rounds, schedule, first_words}
use Rattle.lisp_read.specs.Grammar.{forms_of}
use Rattle.lisp_spec.specs.Forms.{Form, Atom}
use Rattle.lisp_spec.specs.Modules.{Module, Definition}
use Rattle.lisp_spec.specs.Heads.{head_of, is_reserved}
use Rattle.lisp_spec.specs.MacroBodies.{body_head, body_value}
use Rattle.lisp_spec.specs.Expansion.{expanded_part}
use Rattle.lisp_spec.specs.BuiltIns.{built_in}
use Rattle.lisp_spec.specs.ExpressionWeights.{expression_weight, module_bound}
use Rattle.lisp_spec.proofs.ModuleCases.{one_text}
use Rattle.step_spec.specs.declared.header.Header.{Header}
use Rattle.coin_facts.specs.declared.coin.Coin.{Coin}
use Rattle.coin_facts.specs.CoinId.{coin_id}
use Rattle.coin_facts.specs.IdLists.{is_among}
use Rattle.session_spec.specs.declared.limits.TheConstants.{MOST_COINS, MOST_COMMANDS}
use Rattle.session_spec.specs.LineFaults.{What, UnknownName, NameTwice, CoinTwice, TooLarge, TooMany, what_text}
use Rattle.session_spec.specs.declared.member.Member.TheVariants.{Curry}
use Rattle.session_spec.specs.LineMembers.{Compiled}
use Rattle.session_spec.specs.Values.{is_name}
use Rattle.session_spec.specs.Sessions.{Session, Faulty, session_of, no_texts, no_singleton, started, unless_full, with_module, by_source, with_source, by_curry, with_coin}
use Rattle.session_spec.proofs.LineParts.{first, one, told, tells, tells_with, behind, input_of}

inc : List ℕ
inc = codes "{\"module\":\"inc\",\"source\":\"(mod (X) (+ X 1))\"}"

-- the code of the module above that the rows have
inc_code : List ℕ
inc_code = 255 ∷ 16 ∷ 255 ∷ 2 ∷ 255 ∷ 255 ∷ 1 ∷ 1 ∷ 128 ∷ []

-- The members come first, in their order: the name, then `source`, or `curry` and `arguments`.
members :
    behind "{\"module\":5,\"source\":5}" "line 2 bad module"
    × behind "{\"module\":\"A\"}" "line 2 bad module"
    × behind "{\"module\":\"\"}" "line 2 bad module"
    × behind "{\"module\":\"a\"}" "line 2 missing source"
    × behind "{\"module\":\"a\",\"source\":5,\"curry\":\"01\",\"arguments\":[]}" "line 2 bad source"
    × behind "{\"module\":\"a\",\"curry\":5}" "line 2 bad curry"
    × behind "{\"module\":\"c\",\"curry\":\"@no\",\"arguments\":[]}" "line 2 unknown-name curry"
    × behind "{\"module\":\"c\",\"curry\":\"@no\"}" "line 2 unknown-name curry"
    × behind "{\"module\":\"c\",\"curry\":\"@No\",\"arguments\":[]}" "line 2 bad curry"
    × behind "{\"module\":\"c\",\"curry\":\"0101\",\"arguments\":[]}" "line 2 bad curry"
    × behind "{\"module\":\"c\",\"curry\":\"01\"}" "line 2 missing arguments"
    × behind "{\"module\":\"c\",\"curry\":\"01\",\"arguments\":\"01\"}" "line 2 bad arguments"
    × behind "{\"module\":\"c\",\"curry\":\"01\",\"arguments\":[\"@no\",\"\"]}" "line 2 bad arguments"
    × behind "{\"module\":\"c\",\"curry\":\"01\",\"arguments\":[\"01\",\"@no\"]}" "line 2 unknown-name arguments"
    × behind "{\"module\":\"c\",\"curry\":\"01\",\"arguments\":[]}" "good"
unfolding is_utf8 chars encode_utf8 digits computing serde_json_on_literals hex_on_literals session_of head_at tree_at_front
members = (refl, refl, refl, refl, refl, refl, refl, refl, refl, refl, refl, refl, refl, refl, refl)

names :
    (is_name (replicate 64 97) ≡ true)
    × (is_name (codes "az09_-") ≡ true)
    × (is_name (replicate 65 97) ≡ false)
    × (is_name (codes "a.") ≡ false)
names = (refl, refl, refl, refl)

-- Then the name, the text's own faults, and what is too large or too many.
texts :
    tells (first ∷ inc ∷ codes "{\"module\":\"inc\",\"source\":5}" ∷ []) "line 3 bad source"
    × tells (first ∷ inc ∷ codes "{\"module\":\"inc\",\"source\":\"(mod (X) Y)\"}" ∷ []) "line 3 name-twice"
    × tells (first ∷ inc ∷ codes "{\"module\":\"inc\",\"curry\":\"01\",\"arguments\":[]}" ∷ []) "line 3 name-twice"
    × behind "{\"module\":\"a\",\"source\":\"(mod (X) Y)\"}" "line 2 module unbound 0 9"
    × behind "{\"module\":\"a\",\"source\":\"(mod (X) (include l) X)\"}" "line 2 module include-missing 0 9"
    × tells_with (one_text "l" "((defun g A B))") [] (first ∷ codes "{\"module\":\"a\",\"source\":\"(mod (X) (include l) X)\"}" ∷ []) "line 2 module unbound 1 12"
    × tells (first ∷ inc ∷ codes "{\"singleton\":\"@no\"}" ∷ []) "line 3 unknown-name singleton"
unfolding is_utf8 chars encode_utf8 digits computing serde_json_on_literals hex_on_literals session_of inc head_at tree_at_front without_sign_bytes shortest_atom applied operator_of operator_named token_of word_token forms_of head_of is_reserved body_head body_value expanded_part built_in expression_weight
texts = (refl, refl, refl, refl, refl, refl, refl)

-- ---- codes

abbrev read_of : {A : Type 0} → (Session → A) → Result Session Faulty → Result A Faulty
read_of part (Ok session) = Ok (part session)
read_of part (Err faulty) = Err faulty

abbrev code_in : Compiled → List ℕ × List ℕ
code_in m = (m.name, m.code)

-- A curried code is made of the code that was given for the earlier module, and a hash by name is that of such a code.
codes_by_name :
    (read_of (λ s. map code_in s.modules) (session_of no_texts (inc_code ∷ []) (input_of (first ∷ inc ∷ codes "{\"module\":\"c\",\"curry\":\"@inc\",\"arguments\":[\"05\"]}" ∷ [])))
    ≡ Ok ((codes "inc", inc_code)
    ∷ (codes "c", (255 ∷ 2 ∷ 255 ∷ 255 ∷ 1 ∷ []) ++ inc_code ++ (255 ∷ 255 ∷ 4 ∷ 255 ∷ 255 ∷ 1 ∷ 5 ∷ 255 ∷ 1 ∷ 128 ∷ 128 ∷ [])) ∷ []))
    × (read_of (λ s. s.header.singleton.bytes) (session_of no_texts [] (input_of (first ∷ codes "{\"module\":\"c\",\"curry\":\"@c\",\"arguments\":[]}" ∷ [])))
    ≡ Err (record { line = 2; what = UnknownName Curry; modules = [] }))
unfolding is_utf8 chars encode_utf8 digits computing serde_json_on_literals hex_on_literals session_of inc inc_code head_at tree_at_front without_sign_bytes shortest_atom applied operator_of operator_named token_of word_token forms_of head_of is_reserved body_head body_value expanded_part built_in expression_weight
codes_by_name = (refl, refl)

-- ---- limits

header : Header
header = record { genesis = no_singleton; seconds = 0; lanes = 1; max_cost = 1; pool_cost = 1; reward = 0; singleton = no_singleton }

compiled : List ℕ → Compiled
compiled name = record { name = name; source = None; code = 128 ∷ [] }

-- a session of so many modules, none of which is called `a`
full : ℕ → Session
unfolding header compiled
full count = record (started header) { modules = replicate count (compiled (codes "b")) }

abbrev whether : {A E : Type 0} → Result A E → Result ℕ E
whether (Ok found) = Ok 1
whether (Err wrong) = Err wrong

too_many :
    (whether (with_module (full 255) (compiled (codes "a"))) ≡ Ok 1)
    × (whether (with_module (full 256) (compiled (codes "a"))) ≡ Err TooMany)
    × (whether (by_curry (full 256) (codes "b") (128 ∷ [])) ≡ Err NameTwice)
    × (whether (by_curry (full 256) (codes "a") (128 ∷ [])) ≡ Err TooMany)
    × (unless_full {A = ℕ} MOST_COINS 999999 0 ≡ Ok 0)
    × (unless_full {A = ℕ} MOST_COINS 1000000 0 ≡ Err TooMany)
    × (unless_full {A = ℕ} MOST_COMMANDS 999999 0 ≡ Ok 0)
    × (unless_full {A = ℕ} MOST_COMMANDS 1000000 0 ≡ Err TooMany)
unfolding full header compiled
too_many = (refl, refl, refl, refl, refl, refl, refl, refl)

abbrev text_of : {A : Type 0} → Result A What → List ℕ
text_of (Ok found) = []
text_of (Err what) = what_text what

-- The text's fault comes before there are too many.
fault_before_too_many : (text_of (whether (by_source no_texts [] (full 256) (codes "a") (codes "(mod (X) Y)"))) ≡ codes "module unbound 0 9")
unfolding full header compiled digits without_sign_bytes shortest_atom applied operator_of operator_named token_of word_token forms_of head_of is_reserved body_head body_value expanded_part built_in expression_weight
fault_before_too_many = refl

-- A coin that is there is told however many there are.
coin_before_too_many : (session : Session) (coin : Coin) → is_among (map coin_id session.coins) (coin_id coin) ≡ true → with_coin session coin ≡ Err CoinTwice
coin_before_too_many session coin there =
    ap (λ b. if b then Err CoinTwice else unless_full MOST_COINS (length session.coins) (record session { coins = session.coins ++ coin ∷ [] })) there

atom_of : ℕ → Form
atom_of count = Atom (record { text = 0; at = 0 }) (replicate count 0)

function : Definition
unfolding atom_of
function = record { name = codes "f"; params = atom_of 0; body = atom_of 509 }

-- a module of 512 functions, whose bound is 128 for each unit of weight
heavy : ℕ → Module
unfolding atom_of function
heavy count = record { params = atom_of 0; constants = []; functions = replicate 512 function; inlines = []; body = atom_of count }

too_large :
    (module_bound (heavy 509) ≡ 33554432)
    × (whether (with_source [] (full 0) (codes "a") (heavy 509)) ≡ Ok 1)
    × (module_bound (heavy 510) ≡ 33554560)
    × (whether (with_source [] (full 256) (codes "a") (heavy 510)) ≡ Err TooLarge)
unfolding full header compiled heavy function atom_of expression_weight
too_large = (refl, refl, refl, refl)
