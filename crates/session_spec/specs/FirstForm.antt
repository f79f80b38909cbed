-- The sessions that are built so far: of one admission and of looks at coins. Source: this project's own.
use Rattle.std.specs.Prelude.{ℕ, ◌&&◌, ◌==◌, List, [], ◌∷◌, ◌++◌, length, map, take, drop, nat_le, Bool, false, not, is_none, Option, Some, None, if◌then◌else◌, codes}
use Rattle.std.specs.List.{prefix_len, repeat}
use Rattle.serde_json.specs.Data.{Data}
use Rattle.serde_json.specs.Find.{as_str}
use Rattle.coin_facts.specs.declared.hash32.Hash32.{Hash32}
use Rattle.coin_facts.specs.declared.coin.Coin.{Coin}
use Rattle.coin_facts.specs.CoinId.{coin_id}
use Rattle.block_spec.specs.declared.bundle.Bundle.{Bundle}
use Rattle.chain_spec.specs.Chain.{Chain, is_in_chain, ledger_of}
use Rattle.judge_spec.specs.declared.limits.Limits.{Limits}
use Rattle.judge_spec.specs.declared.limits.TheConstants.{DEFAULT_MAX_COST, DEFAULT_POOL_COST}
use Rattle.coin_facts.specs.declared.sizes.TheConstants.{HASH_BYTES}
use Rattle.pool_spec.specs.Payment.{is_payment}
use Rattle.pool_spec.specs.Step.{Admit, LookUp}
use Rattle.pool_spec.specs.History.{Session}
use Rattle.session_spec.specs.Steps.{◌>>=◌, all_of}
use Rattle.session_spec.specs.Members.{has, member, whole, hash, coin}
use Rattle.session_spec.specs.Values.{is_text}
use Rattle.session_spec.specs.Bundles.{bundle}
use Rattle.session_spec.specs.Lines.{lines, object_of}

-- The kind of a line is given by the first of the members session, module, singleton, coin and do that it has.
abbrev pub is_of_session : Data → Bool
is_of_session line = has (codes "session") line

abbrev pub is_later : Data → Bool
is_later line = not (is_of_session line) && not (has (codes "module") line) && not (has (codes "singleton") line)

abbrev pub is_coin_line : Data → Bool
is_coin_line line = is_later line && has (codes "coin") line

abbrev pub is_command_line : Data → Bool
is_command_line line = is_later line && not (has (codes "coin") line) && has (codes "do") line

-- The first line has no member that stands for a default.
abbrev pub has_defaults : Data → Bool
has_defaults line = not (has (codes "lanes") line) && not (has (codes "max_cost") line) && not (has (codes "pool_cost") line) && not (has (codes "reward") line)

abbrev pub one : Data → Option ℕ
one value = whole value >>= λ n. if n == 1 then Some n else None

-- a chain without coins, of genesis data and seconds
abbrev pub header : Data → Option Chain
header line = do
  version ← member (codes "session") one line
  genesis ← member (codes "genesis") hash line
  seconds ← member (codes "seconds") whole line
  if has_defaults line then Some (record { genesis = genesis; seconds = seconds; coins = []; blocks = [] }) else None

abbrev pub coin_of : Data → Option Coin
coin_of line = member (codes "coin") coin line

abbrev pub does : List ℕ → Data → Bool
does word line = is_command_line line && not (has (codes "lane") line) && is_text word (member (codes "do") as_str line)

-- the bundle that a line admits
abbrev pub admitted_by : Data → Option Bundle
admitted_by line = if does (codes "admit") line then member (codes "bundle") bundle line else None

-- the id of the coin that a line asks for
abbrev pub asked_by : Data → Option Hash32
asked_by line = if does (codes "coin") line then member (codes "id") hash line else None

-- the limits of a session that says nothing of them
abbrev pub default_limits : Limits
default_limits = record { max_cost = DEFAULT_MAX_COST; pool_cost = DEFAULT_POOL_COST; reward = 0; singleton = record { bytes = repeat HASH_BYTES (0 ∷ []) } }

abbrev pub session : Chain → Bundle → List Hash32 → Session
session chain bundle ids = record { chain = chain; limits = default_limits; commands = Admit bundle ∷ map LookUp ids }

-- The coins are added one after another, and each has an id that no earlier one has.
abbrev pub start_coins : Chain → List Coin → Option Chain
start_coins chain [] = Some chain
start_coins chain (coin ∷ coins) =
    if is_in_chain (ledger_of chain) (coin_id coin) then None else start_coins (record chain { coins = chain.coins ++ coin ∷ [] }) coins

abbrev pub if_payment : Chain → Bundle → List Hash32 → Option Session
if_payment chain bundle ids = if is_payment chain bundle then Some (session chain bundle ids) else None

-- The commands are one admission, and then looks at coins.
abbrev pub with_commands : Chain → List Data → Option Session
with_commands chain [] = None
with_commands chain (line ∷ lines) = do
  bundle ← admitted_by line
  ids ← all_of asked_by lines
  if_payment chain bundle ids

-- Between the first line and the commands stand the coins.
abbrev pub with_coins : Chain → ℕ → List Data → Option Session
with_coins chain count lines = do
  coins ← all_of coin_of (take count lines)
  started ← start_coins chain coins
  with_commands started (drop count lines)

abbrev pub first_form_of_lines : List Data → Option Session
first_form_of_lines [] = None
first_form_of_lines (line ∷ lines) = do
  chain ← header line
  with_coins chain (prefix_len is_coin_line lines) lines

-- the session of an input of at most 65,536 bytes, where it is of this form
unfoldable pub first_form_of : List ℕ → Option Session
first_form_of input = if nat_le (length input) 65_536 then all_of object_of (lines input) >>= first_form_of_lines else None
