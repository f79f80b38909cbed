-- Every bundle of a session's pool has a price.
use Rattle.std.proofs.Common.{◌≡◌, ℕ, ◌==◌, inl, inr, Bool, true, false, nat_lt, nat_le, if◌then◌else◌, List, [], ◌∷◌, ◌++◌, ◌-◌, length, take, refl, sym, subst}
use Rattle.judge_spec.specs.declared.rule.Rule.TheVariants.{NotNext, NotLater, TooFarBack}
use Rattle.judge_spec.specs.Judgement.{terms_of}
use Rattle.judge_spec.specs.BlockJudgement.{BlockVerdict, Accepts, Breaks, block_judgement, connected_block}
use Rattle.chain_spec.specs.Chain.{Connected, ledger_of}
use Rattle.block_spec.specs.declared.bundle.Bundle.{Bundle}
use Rattle.block_spec.specs.declared.block.Block.{Block}
use Rattle.pool_spec.specs.Prices.{refusal, facts_in}
use Rattle.pool_spec.specs.Pool.{PoolState, Admission, Admits, Refuses, admission}
use Rattle.pool_spec.specs.PoolLaws.{AllArePriced}
use Rattle.pool_spec.specs.Assembly.{assembly}
use Rattle.pool_spec.proofs.ReplacedLaws.{staying-are-priced, admitted-are-priced}
use Rattle.step_spec.specs.declared.command.Command.{Command}
use Rattle.step_spec.specs.declared.command.Command.TheVariants as commands
use Rattle.step_spec.specs.declared.reply.Reply.{Reply}
use Rattle.step_spec.specs.declared.entry.Entry.{Entry}
use Rattle.step_spec.specs.Steps.{Stepped, step, after_admission, with_blocks, connected, rolled_back, unless_misplaced, assembled, farmed, after_block, after_rollback, peak_in, greatest_height, refused, at_peak}
use Rattle.step_spec.specs.Histories.{Opening, Answers, Leads}
use Rattle.step_spec.specs.StepLaws.{StepKeepsPriced, HistoryKeepsPriced}

by-admission : (state : PoolState) (bundle : Bundle) (found : Admission) → AllArePriced state → admission state bundle ≡ found → AllArePriced (after_admission state found).state
by-admission state bundle (Admits told next) all is = admitted-are-priced state bundle told next all is
by-admission state bundle (Refuses refusal) all is = all

with-blocks : (state : PoolState) (blocks : List Connected) → AllArePriced (with_blocks state blocks)
with-blocks state blocks = staying-are-priced (record state { chain = record state.chain { blocks = blocks } })

by-connection : (state : PoolState) (block : Block) → AllArePriced (connected state block)
by-connection state block =
    with-blocks state (state.chain.blocks ++ connected_block state.limits.reward (ledger_of state.chain) block (facts_in state.limits.max_cost block.spends) ∷ [])

by-place : (state : PoolState) (seconds : ℕ) (found : Stepped) → AllArePriced state → AllArePriced found.state → AllArePriced (unless_misplaced state seconds found).state
by-place state seconds found all after = by_tests ((peak_in state).height == greatest_height) (nat_lt (peak_in state).seconds seconds)
  where
    by_tests : (high late : Bool) → AllArePriced (if high then refused state (refusal NotNext 0) else (if late then found else refused state (refusal NotLater 0))).state
    by_tests true late = all
    by_tests false true = after
    by_tests false false = all

by-block : (state : PoolState) (found : BlockVerdict) → AllArePriced state → AllArePriced (after_block state found).state
by-block state (Accepts block cost fee) all = by-connection state block
by-block state (Breaks rule place) all = all

by-rollback : (state : PoolState) (count : ℕ) → AllArePriced state → AllArePriced (after_rollback state count).state
by-rollback state count all = by_count (nat_le count (length state.chain.blocks))
  where
    by_count : (enough : Bool) → AllArePriced (if enough then at_peak (rolled_back state count) else refused state (refusal TooFarBack 0)).state
    by_count true = with-blocks state (take (length state.chain.blocks - count) state.chain.blocks)
    by_count false = all

pub step-keeps-priced : StepKeepsPriced
unfolding step
step-keeps-priced state (commands.Admit lane bundle) all = by-admission state bundle (admission state bundle) all refl
step-keeps-priced state (commands.Assemble lane seconds reward_hash) all = by-place state seconds (assembled state (assembly state seconds reward_hash)) all all
step-keeps-priced state (commands.Farm lane seconds reward_hash) all =
    by-place state seconds (farmed state (assembly state seconds reward_hash)) all (by-connection state (assembly state seconds reward_hash).block)
step-keeps-priced state (commands.Block lane bytes) all = by-block state (block_judgement (terms_of state.limits) (ledger_of state.chain) bytes) all
step-keeps-priced state (commands.Rollback lane blocks) all = by-rollback state blocks all
step-keeps-priced state (commands.Coin lane id) all = all
step-keeps-priced state (commands.List lane) all = all
step-keeps-priced state (commands.Peak lane) all = all

one-answer : (state next : PoolState) (command : Command) (reply : Reply) → Answers state command reply next → AllArePriced state → AllArePriced next
one-answer state next command reply (inl own) all = subst AllArePriced (sym own.1) (step-keeps-priced state command all)
one-answer state next command reply (inr lacks) all = subst AllArePriced (sym lacks.2) all

priced-from : (opening : Opening) (earlier entries : List Entry) (state end : PoolState) → AllArePriced state → Leads opening earlier state entries end → AllArePriced end
priced-from opening earlier [] state end all to = subst AllArePriced to all
priced-from opening earlier (entry ∷ entries) state end all to =
    priced-from opening (earlier ++ entry ∷ []) entries to.0 end (one-answer state to.0 to.1.command entry.reply to.1.answers all) to.2

pub history-keeps-priced : HistoryKeepsPriced
history-keeps-priced opening entries end all to = priced-from opening [] entries opening.state end all to
