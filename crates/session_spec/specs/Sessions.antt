-- The session that an input is, or its first faulty line. Source: this project's own.
use Rattle.std.specs.Prelude.{◌≡◌, ℕ, ◌≤◌, ◌||◌, ◌&&◌, List, [], ◌∷◌, ◌++◌, length, map, get_or, bytes_eq, nat_le, nat_lt, not, is_some, Bool, true, false, Option, Some, None, option_and_then, Result, Ok, Err, codes, if◌then◌else◌}
use Rattle.std.specs.List.{AllByRecursion, repeat}
use Rattle.serde_json.specs.Data.{Data}
use Rattle.serde_json.specs.Find.{get, as_str}
use Rattle.clvm_spec.specs.declared.limits.TheConstants.{MOST_WRITTEN}
use Rattle.clvm_spec.specs.Spelling.{spelling}
use Rattle.clvm_spec.specs.Spelled.{is_spelled, spelled_tree}
use Rattle.clvm_spec.specs.Currying.{curried}
use Rattle.coin_facts.specs.declared.sizes.TheConstants.{HASH_BYTES}
use Rattle.coin_facts.specs.declared.hash32.Hash32.{Hash32}
use Rattle.coin_facts.specs.declared.coin.Coin.{Coin}
use Rattle.coin_facts.specs.CoinId.{coin_id}
use Rattle.coin_facts.specs.IdLists.{is_among}
use Rattle.judge_spec.specs.declared.limits.TheConstants.{GREATEST_MAX_COST, GREATEST_POOL_COST, DEFAULT_MAX_COST, DEFAULT_POOL_COST}
use Rattle.lisp_spec.specs.Modules.{Module}
use Rattle.lisp_spec.specs.ModuleFaults.{Judged}
use Rattle.lisp_spec.specs.Inclusion.{Texts}
use Rattle.lisp_spec.specs.ModuleOf.{module_of}
use Rattle.lisp_spec.specs.ExpressionWeights.{module_bound}
use Rattle.lisp_spec.specs.Agreement.{Agrees}
use Rattle.step_spec.specs.declared.header.Header.{Header}
use Rattle.step_spec.specs.declared.command.Command.{Command}
use Rattle.session_spec.specs.declared.limits.TheConstants.{VERSION, MOST_LANES, DEFAULT_LANES, LEAST_MAX_COST, MOST_MODULES, MOST_COINS, MOST_COMMANDS}
use Rattle.session_spec.specs.declared.member.Member.TheVariants as member
use Rattle.session_spec.specs.MemberNames.{name_of}
use Rattle.session_spec.specs.LineFaults.{What, OutOfOrder, Missing, NameTwice, CoinTwice, InModule, TooLarge, TooMany}
use Rattle.session_spec.specs.Results.{◌>>=◌, unless}
use Rattle.session_spec.specs.Values.{is_text, number_between, whole_number, bytes_of_hash, module_name}
use Rattle.session_spec.specs.LineMembers.{Compiled, module_named, plain, code_value, code_values, hash_value, required, optional}
use Rattle.session_spec.specs.BundleMembers.{coin_member}
use Rattle.session_spec.specs.CommandLines.{command_in}
use Rattle.session_spec.specs.LineKinds.{numbered_lines, Kind, SessionLine, ModuleLine, SingletonLine, CoinLine, CommandLine, may_follow, Line, Order, line_in}

pub record Session : Type 0 where
  pub header : Header
  pub modules : List Compiled
  pub coins : List Coin
  pub commands : List Command

-- ---- the session line

-- the singleton's hash of a session that says nothing of it: 32 bytes of 00
abbrev pub no_singleton : Hash32
no_singleton = record { bytes = repeat HASH_BYTES (0 ∷ []) }

abbrev pub header_in : Data → Result Header What
header_in fields = do
  version ← required member.Session (plain (number_between VERSION VERSION)) fields
  genesis ← required member.Genesis (plain bytes_of_hash) fields
  seconds ← required member.Seconds (plain whole_number) fields
  lanes ← optional member.Lanes DEFAULT_LANES (plain (number_between 1 MOST_LANES)) fields
  max_cost ← optional member.MaxCost DEFAULT_MAX_COST (plain (number_between LEAST_MAX_COST GREATEST_MAX_COST)) fields
  pool_cost ← optional member.PoolCost DEFAULT_POOL_COST (plain (number_between 0 GREATEST_POOL_COST)) fields
  reward ← optional member.Reward 0 (plain whole_number) fields
  Ok (record { genesis = genesis; seconds = seconds; lanes = lanes; max_cost = max_cost; pool_cost = pool_cost; reward = reward; singleton = no_singleton })

abbrev pub started : Header → Session
started header = record { header = header; modules = []; coins = []; commands = [] }

-- ---- module lines

-- There is room for one more where fewer than the most are there.
abbrev pub unless_full : {A : Type 0} → (most count : ℕ) → A → Result A What
unless_full most count added = unless (nat_le most count) TooMany (Ok added)

abbrev pub with_module : Session → Compiled → Result Session What
with_module session new = unless_full MOST_MODULES (length session.modules) (record session { modules = session.modules ++ new ∷ [] })

abbrev pub is_taken : Session → List ℕ → Bool
is_taken session name = is_some (module_named session.modules name)

-- The codes are those of the module lines, in their order: each line has the one with its number.
abbrev pub code_at : List (List ℕ) → ℕ → List ℕ
code_at codes number = get_or codes number []

abbrev pub of_module : Judged Module → Result Module What
of_module (Ok found) = Ok found
of_module (Err fault) = Err (InModule fault)

-- A text is too large where its module's bound is.
abbrev pub with_source : List (List ℕ) → Session → List ℕ → Module → Result Session What
with_source codes session name source =
    unless (nat_lt MOST_WRITTEN (module_bound source)) TooLarge
    (with_module session (record { name = name; source = Some source; code = code_at codes (length session.modules) }))

abbrev pub by_source : Texts → List (List ℕ) → Session → List ℕ → List ℕ → Result Session What
by_source texts codes session name text =
    unless (is_taken session name) NameTwice (of_module (module_of text texts) >>= with_source codes session name)

-- A curried code is too large where its spelling is.
abbrev pub by_curry : Session → List ℕ → List ℕ → Result Session What
by_curry session name code =
    unless (is_taken session name) NameTwice
    (unless (nat_lt MOST_WRITTEN (length code)) TooLarge (with_module session (record { name = name; source = None; code = code })))

abbrev pub curried_code : List ℕ → List (List ℕ) → List ℕ
curried_code program arguments = spelling (curried (spelled_tree program) (map spelled_tree arguments))

abbrev pub source_line : Texts → List (List ℕ) → Session → List ℕ → Data → Result Session What
source_line texts codes session name fields = required member.Source (plain as_str) fields >>= by_source texts codes session name

abbrev pub curry_line : Session → List ℕ → Data → Result Session What
curry_line session name fields = do
  program ← required member.Curry (code_value session.modules) fields
  arguments ← required member.Arguments (code_values session.modules) fields
  by_curry session name (curried_code program arguments)

-- A line with neither `source` nor `curry`, or with both, is read by `source`.
abbrev pub has_source : Data → Bool
has_source fields = is_some (get (name_of member.Source) fields) || not (is_some (get (name_of member.Curry) fields))

abbrev pub module_line : Texts → List (List ℕ) → Session → Data → Result Session What
module_line texts codes session fields = do
  name ← required member.Module (plain module_name) fields
  if has_source fields then source_line texts codes session name fields else curry_line session name fields

-- ---- singleton, coin and command lines

abbrev pub with_singleton : Session → Hash32 → Session
with_singleton session hash = record session { header = record session.header { singleton = hash } }

abbrev pub singleton_line : Session → Data → Result Session What
singleton_line session fields = required member.Singleton (hash_value session.modules) fields >>= λ hash. Ok (with_singleton session hash)

abbrev pub with_coin : Session → Coin → Result Session What
with_coin session coin =
    unless (is_among (map coin_id session.coins) (coin_id coin)) CoinTwice
    (unless_full MOST_COINS (length session.coins) (record session { coins = session.coins ++ coin ∷ [] }))

abbrev pub coin_line : Session → Data → Result Session What
coin_line session fields = coin_member session.modules fields >>= with_coin session

abbrev pub with_command : Session → Command → Result Session What
with_command session command =
    unless_full MOST_COMMANDS (length session.commands) (record session { commands = session.commands ++ command ∷ [] })

abbrev pub command_line : Session → Data → Result Session What
command_line session fields = command_in session.modules session.header.lanes fields >>= with_command session

-- ---- line after line

-- A session line is the first alone.
abbrev pub with_line : Texts → List (List ℕ) → Session → Kind → Data → Result Session What
with_line texts codes session SessionLine fields = Err OutOfOrder
with_line texts codes session ModuleLine fields = module_line texts codes session fields
with_line texts codes session SingletonLine fields = singleton_line session fields
with_line texts codes session CoinLine fields = coin_line session fields
with_line texts codes session CommandLine fields = command_line session fields

-- the kind of the last line, and the session so far
pub record Walk : Type 0 where
  pub before : Kind
  pub session : Session

abbrev pub after_line : Order → Texts → List (List ℕ) → Walk → List ℕ → Result Walk What
after_line order texts codes walk bytes = do
  line ← line_in order (Some walk.before) bytes
  session ← with_line texts codes walk.session line.kind line.fields
  Ok (record { before = line.kind; session = session })

-- a faulty line with its number, and the modules of the lines before it
pub record Faulty : Type 0 where
  pub line : ℕ
  pub what : What
  pub modules : List Compiled

abbrev pub at_line : {A : Type 0} → ℕ → List Compiled → Result A What → Result A Faulty
at_line number modules (Ok found) = Ok found
at_line number modules (Err what) = Err (record { line = number; what = what; modules = modules })

abbrev pub walked : Order → Texts → List (List ℕ) → Walk → List (ℕ × List ℕ) → Result Session Faulty
walked order texts codes walk [] = Ok walk.session
walked order texts codes walk (line ∷ lines) =
    at_line line.0 walk.session.modules (after_line order texts codes walk line.1) >>= λ next. walked order texts codes next lines

abbrev pub first_line : Order → List ℕ → Result Walk What
first_line order bytes = do
  line ← line_in order None bytes
  header ← header_in line.fields
  Ok (record { before = line.kind; session = started header })

-- Where there is no line, the session is missing in line 1.
abbrev pub session_of_lines : Order → Texts → List (List ℕ) → List (ℕ × List ℕ) → Result Session Faulty
session_of_lines order texts codes [] = at_line 1 [] (Err (Missing member.Session))
session_of_lines order texts codes (line ∷ lines) = at_line line.0 [] (first_line order line.1) >>= λ walk. walked order texts codes walk lines

-- ---- sessions

abbrev pub in_order : Order
in_order before line = may_follow before line.kind

-- the session of an input, with these library texts and these codes of the module lines
unfoldable pub session_of : Texts → List (List ℕ) → List ℕ → Result Session Faulty
session_of texts codes input = session_of_lines in_order texts codes (numbered_lines input)

-- These bytes spell a code that agrees with the module and keeps its bound.
pub record IsCodeOf (source : Module) (code : List ℕ) : Type 0 where
  pub spelled : is_spelled code ≡ true
  pub agrees : Agrees source (spelled_tree code)
  pub bounded : length code ≤ module_bound source

abbrev pub HasCode : Option Module → List ℕ → Type 0
HasCode None code = Unit {0}
HasCode (Some source) code = IsCodeOf source code

abbrev pub AreCompiled : List Compiled → Type 0
AreCompiled modules = AllByRecursion (λ m. HasCode m.source m.code) modules

-- the modules that were read: those of the session, or of the lines before the faulty one
abbrev pub modules_in : Result Session Faulty → List Compiled
modules_in (Ok session) = session.modules
modules_in (Err faulty) = faulty.modules

-- The input is read so, by one list of codes that agree with the modules that were read. All that is said of one call speaks of
-- one such result.
pub record IsReadWithCodes (texts : Texts) (input : List ℕ) (result : Result Session Faulty) : Type 0 where
  pub codes : List (List ℕ)
  pub reads : session_of texts codes input ≡ result
  pub compiled : AreCompiled (modules_in result)

-- ---- replays

abbrev pub does_block : Data → Bool
does_block fields = is_text (codes "block") (option_and_then as_str (get (name_of member.Do) fields))

-- A replay has a session line, coin lines and `block` commands; any other line is out of order.
abbrev pub is_of_replay : Kind → Data → Bool
is_of_replay SessionLine fields = true
is_of_replay ModuleLine fields = false
is_of_replay SingletonLine fields = false
is_of_replay CoinLine fields = true
is_of_replay CommandLine fields = does_block fields

abbrev pub in_replay : Order
in_replay before line = may_follow before line.kind && is_of_replay line.kind line.fields

abbrev pub no_texts : Texts
no_texts name = None

-- the session of a replay's input, in which no module can be named
unfoldable pub replay_of : List ℕ → Result Session Faulty
replay_of input = session_of_lines in_replay no_texts [] (numbered_lines input)
