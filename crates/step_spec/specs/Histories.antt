-- The histories of a session: in which order the commands of its lanes were answered, and how. Source: this project's own.
use Rattle.std.specs.Prelude.{◌≡◌, ℕ, suc, ◌==◌, ◌⊎◌, List, [], ◌∷◌, ◌++◌, length, count_by, fold, slice_get, Option, Some, None, option_and_then}
use Rattle.coin_facts.specs.declared.coin.Coin.{Coin}
use Rattle.chain_spec.specs.Chain.{Chain}
use Rattle.pool_spec.specs.Pool.{PoolState}
use Rattle.step_spec.specs.declared.header.Header.{Header}
use Rattle.step_spec.specs.declared.command.Command.{Command}
use Rattle.step_spec.specs.declared.reply.Reply.{Reply}
use Rattle.step_spec.specs.declared.reply.Reply.TheVariants.{Memory}
use Rattle.step_spec.specs.declared.entry.Entry.{Entry}
use Rattle.step_spec.specs.Commands.{lanes_of, MayLackMemory}
use Rattle.step_spec.specs.Steps.{Stepped, step}

-- ---- where a history begins

-- a pool, and the commands of each lane
pub record Opening : Type 0 where
  pub state : PoolState
  pub lanes : List (List Command)

abbrev pub start_chain : Header → List Coin → Chain
start_chain header coins = record { genesis = header.genesis; seconds = header.seconds; coins = coins; blocks = [] }

-- a session's state before its first command: its coins, no block, and no bundle
abbrev pub start_state : Header → List Coin → PoolState
start_state header coins = record {
  chain = start_chain header coins;
  limits = record { max_cost = header.max_cost; pool_cost = header.pool_cost; reward = header.reward; singleton = header.singleton };
  bundles = [];
}

abbrev pub opening_of : Header → List Coin → List Command → Opening
opening_of header coins commands = record { state = start_state header coins; lanes = lanes_of header.lanes commands }

-- ---- where it leads

-- how many commands of a lane the entries answer
abbrev pub done : List Entry → ℕ → ℕ
done entries lane = count_by (λ entry. entry.lane == lane) entries

-- a lane's command of this number
abbrev pub command_at : Opening → (lane number : ℕ) → Option Command
command_at opening lane number = option_and_then (λ commands. slice_get commands number) (slice_get opening.lanes lane)

-- From one state a command may be given this reply, and the state goes on to another: as its step says, or the reply is want
-- of memory, and the state stays.
abbrev pub Answers : PoolState → Command → Reply → PoolState → Type 0
Answers state command reply next =
    ((reply ≡ (step state command).reply) × (next ≡ (step state command).state))
    ⊎ (MayLackMemory command × (reply ≡ Memory) × (next ≡ state))

-- Behind earlier entries an entry answers the next command of its lane, and the state goes on to another.
pub record GoesOn (opening : Opening) (earlier : List Entry) (state : PoolState) (entry : Entry) (next : PoolState) : Type 0 where
  pub command : Command
  pub number : entry.number ≡ done earlier entry.lane
  pub this : command_at opening entry.lane entry.number ≡ Some command
  pub answers : Answers state command entry.reply next

-- Behind earlier entries, that led to a state, further ones lead on to another.
abbrev pub Leads : Opening → (earlier : List Entry) → PoolState → List Entry → PoolState → Type 0
Leads opening earlier state [] end = state ≡ end
Leads opening earlier state (entry ∷ entries) end =
    (next : PoolState) × GoesOn opening earlier state entry next × Leads opening (earlier ++ entry ∷ []) next entries end

-- what leads from the opening's state on, with no entry before
abbrev pub LeadsTo : Opening → List Entry → PoolState → Type 0
LeadsTo opening entries end = Leads opening [] opening.state entries end

-- ---- the state as a function of the history

-- that of the command's step, or the same where memory was wanting
abbrev pub state_by : Reply → Stepped → PoolState → PoolState
state_by Memory found state = state
state_by _ found state = found.state

abbrev pub after_command : Reply → PoolState → Option Command → PoolState
after_command reply state (Some command) = state_by reply (step state command) state
after_command reply state None = state

abbrev pub after_entry : Opening → PoolState → Entry → PoolState
after_entry opening state entry = after_command entry.reply state (command_at opening entry.lane entry.number)

abbrev pub state_after : Opening → List Entry → PoolState
state_after opening entries = fold (after_entry opening) opening.state entries

-- ---- legal histories

-- The entries answer all commands of these lanes, which are numbered from here on.
abbrev pub AreDone : List Entry → ℕ → List (List Command) → Type 0
AreDone entries lane [] = Unit {0}
AreDone entries lane (commands ∷ lanes) = (done entries lane ≡ length commands) × AreDone entries (suc lane) lanes

-- The entries lead from the opening to some state, and each lane is done.
abbrev pub IsLegal : Opening → List Entry → Type 0
IsLegal opening entries = ((end : PoolState) × LeadsTo opening entries end) × AreDone entries 0 opening.lanes
