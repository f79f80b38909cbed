-- One command on a pool: the reply, and the state after it. Source: this project's own.
use Rattle.std.specs.Prelude.{ℕ, ◌-◌, ◌^◌, ◌==◌, List, [], ◌∷◌, ◌++◌, length, take, map, nat_lt, nat_le, Option, Some, None, if◌then◌else◌}
use Rattle.coin_facts.specs.declared.hash32.Hash32.{Hash32}
use Rattle.block_spec.specs.declared.block.Block.{Block}
use Rattle.block_spec.specs.BundleTree.{bundle_id}
use Rattle.block_spec.specs.BlockTree.{block_bytes, block_hash}
use Rattle.chain_spec.specs.declared.chain.Record.{Record}
use Rattle.chain_spec.specs.declared.chain.Peak.{Peak}
use Rattle.chain_spec.specs.Chain.{Connected, look_up, ledger_of, peak_of}
use Rattle.judge_spec.specs.declared.rule.Rule.TheVariants.{NotNext, NotLater, TooFarBack}
use Rattle.judge_spec.specs.Judgement.{terms_of}
use Rattle.judge_spec.specs.BlockJudgement.{BlockVerdict, Accepts, Breaks, block_judgement, connected_block}
use Rattle.pool_spec.specs.Prices.{Refusal, refusal, facts_in}
use Rattle.pool_spec.specs.Pool.{PoolState, Admission, Admits, Refuses, admission, after_peak_change}
use Rattle.pool_spec.specs.Assembly.{Assembled, assembly}
use Rattle.step_spec.specs.declared.command.Command.{Command}
use Rattle.step_spec.specs.declared.command.Command.TheVariants as commands
use Rattle.step_spec.specs.declared.reply.Reply.{Reply}
use Rattle.step_spec.specs.declared.reply.Reply.TheVariants as replies

pub record Stepped : Type 0 where
  pub reply : Reply
  pub state : PoolState

abbrev pub stepped : Reply → PoolState → Stepped
stepped reply state = record { reply = reply; state = state }

-- A refused command keeps the state.
abbrev pub refused : PoolState → Refusal → Stepped
refused state refusal = stepped (replies.Refused refusal.rule refusal.place) state

abbrev pub peak_in : PoolState → Peak
peak_in state = peak_of state.chain

-- ---- the chain with a block more, and with some less

abbrev pub with_blocks : PoolState → List Connected → PoolState
with_blocks state blocks = after_peak_change (record state { chain = record state.chain { blocks = blocks } })

-- The block is connected, and the pool follows its peak.
abbrev pub connected : PoolState → Block → PoolState
connected state block =
    with_blocks state
    (state.chain.blocks ++ connected_block state.limits.reward (ledger_of state.chain) block (facts_in state.limits.max_cost block.spends) ∷ [])

-- The last blocks are dropped. No bundle comes back to the pool.
abbrev pub rolled_back : PoolState → ℕ → PoolState
rolled_back state count = with_blocks state (take (length state.chain.blocks - count) state.chain.blocks)

-- ---- replies

-- `admit`
abbrev pub after_admission : PoolState → Admission → Stepped
after_admission state (Admits told next) = stepped (replies.Admitted told.id told.fee told.cost told.replaced) next
after_admission state (Refuses refusal) = refused state refusal

-- A block that is assembled has a height below 2 ^ 32, else 41, and more seconds than the peak, else 42.
abbrev pub greatest_height : ℕ
greatest_height = 2 ^ 32 - 1

abbrev pub unless_misplaced : PoolState → (seconds : ℕ) → Stepped → Stepped
unless_misplaced state seconds step =
    if (peak_in state).height == greatest_height then refused state (refusal NotNext 0)
    else (if nat_lt (peak_in state).seconds seconds then step else refused state (refusal NotLater 0))

-- `assemble` keeps the state.
abbrev pub assembled : PoolState → Assembled → Stepped
assembled state found = stepped (replies.Block found.fee found.cost (block_bytes found.block)) state

-- `farm` connects the block that is assembled.
abbrev pub farmed : PoolState → Assembled → Stepped
farmed state found =
    stepped (replies.Farmed found.block.height (block_hash found.block) found.fee found.cost (block_bytes found.block))
    (connected state found.block)

abbrev pub at_peak : PoolState → Stepped
at_peak state = stepped (replies.Peak (peak_in state).height (peak_in state).hash (peak_in state).seconds) state

-- `block`: 40, 41, 42, and then 2 to 23; else it is connected.
abbrev pub after_block : PoolState → BlockVerdict → Stepped
after_block state (Accepts block cost fee) = at_peak (connected state block)
after_block state (Breaks rule place) = refused state (record { rule = rule; place = place })

-- Rule 43: more blocks are asked back than there are.
abbrev pub after_rollback : PoolState → ℕ → Stepped
after_rollback state count =
    if nat_le count (length state.chain.blocks) then at_peak (rolled_back state count) else refused state (refusal TooFarBack 0)

abbrev pub coin_reply : Option Record → Reply
coin_reply None = replies.NoCoin
coin_reply (Some found) =
    replies.Coin found.coin.parent found.coin.puzzle_hash found.coin.amount found.height found.seconds found.spent

abbrev pub ids_in : PoolState → List Hash32
ids_in state = map bundle_id state.bundles

-- ---- the step

unfoldable pub step : PoolState → Command → Stepped
step state (commands.Admit lane bundle) = after_admission state (admission state bundle)
step state (commands.Assemble lane seconds reward_hash) = unless_misplaced state seconds (assembled state (assembly state seconds reward_hash))
step state (commands.Farm lane seconds reward_hash) = unless_misplaced state seconds (farmed state (assembly state seconds reward_hash))
step state (commands.Block lane bytes) = after_block state (block_judgement (terms_of state.limits) (ledger_of state.chain) bytes)
step state (commands.Rollback lane blocks) = after_rollback state blocks
step state (commands.Coin lane id) = stepped (coin_reply (look_up (ledger_of state.chain) id)) state
step state (commands.List lane) = stepped (replies.Pool (ids_in state)) state
step state (commands.Peak lane) = at_peak state
