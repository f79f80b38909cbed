-- Where histories lead.
use Rattle.std.proofs.Common.{◌≡◌, ℕ, suc, ◌+◌, ◌==◌, inl, inr, Bool, true, false, cond, if◌then◌else◌, Option, Some, None, List, [], ◌∷◌, ◌++◌, length, map, zero, refl, ap, sym, ◌∙◌, subst, append_assoc, arith}
use Rattle.std.specs.Prelude.{filter, fold, slice_get, nat_lt, nat_le}
use Rattle.std.specs.List.{range_with_len}
use Rattle.std.proofs.lemmas.Bool.{eqb-true}
use Rattle.std.proofs.lemmas.List.{append-nil}
use Rattle.std.proofs.lemmas.List.Sums.{sum_by_push, sum_by-cons}
use Rattle.chain_spec.specs.declared.chain.Record.{Record}
use Rattle.chain_spec.specs.Chain.{look_up, ledger_of}
use Rattle.judge_spec.specs.Judgement.{terms_of}
use Rattle.judge_spec.specs.BlockJudgement.{BlockVerdict, Accepts, Breaks, block_judgement}
use Rattle.pool_spec.specs.Prices.{refusal}
use Rattle.judge_spec.specs.declared.rule.Rule.TheVariants.{NotNext, NotLater, TooFarBack}
use Rattle.pool_spec.specs.Pool.{PoolState, Admission, Admits, Refuses, admission}
use Rattle.pool_spec.specs.Assembly.{assembly}
use Rattle.step_spec.specs.declared.command.Command.{Command}
use Rattle.step_spec.specs.declared.command.Command.TheVariants as commands
use Rattle.step_spec.specs.declared.reply.Reply.{Reply}
use Rattle.step_spec.specs.declared.reply.Reply.TheVariants as replies
use Rattle.step_spec.specs.declared.entry.Entry.{Entry}
use Rattle.step_spec.specs.Steps.{Stepped, step, after_admission, unless_misplaced, assembled, farmed, after_block, after_rollback, coin_reply, peak_in, greatest_height, refused, at_peak, rolled_back}
use Rattle.step_spec.specs.Histories.{Opening, done, Answers, Leads, AreDone, state_by, after_command, after_entry}
use Rattle.step_spec.specs.StepLaws.{LeadsOn, BeginningLeads, StepIsAnswered, StateIsOfHistory, LeadsToOne, numbers_of, LegalIsInOrder}

-- ---- one list behind another

pub leads-on : LeadsOn
leads-on opening earlier [] later state middle end to on =
    subst (λ start. Leads opening earlier start later end) (sym to) (subst (λ before. Leads opening before middle later end) (append-nil earlier) on)
leads-on opening earlier (entry ∷ first) later state middle end to on = (
  to.0,
  to.1,
  leads-on opening (earlier ++ entry ∷ []) first later to.0 middle end to.2
      (subst (λ before. Leads opening before middle later end) (sym (append_assoc earlier (entry ∷ []) first)) on),
)

pub beginning-leads : BeginningLeads
beginning-leads opening earlier [] later state end to =
    (state, refl, subst (λ before. Leads opening before state later end) (sym (append-nil earlier)) to)
beginning-leads opening earlier (entry ∷ first) later state end to =
    let more = beginning-leads opening (earlier ++ entry ∷ []) first later to.0 end to.2 in
    (more.0, (to.0, to.1, more.1), subst (λ before. Leads opening before more.0 later end) (append_assoc earlier (entry ∷ []) first) more.2)

-- ---- replies

IsAnswered : Reply → Type 0
IsAnswered reply = reply ≡ replies.Memory → ⊥

admission-answers : (state : PoolState) (found : Admission) → IsAnswered (after_admission state found).reply
unfolding IsAnswered
admission-answers state (Admits told next) e = cc
admission-answers state (Refuses refusal) e = cc

placed-answers : (state : PoolState) (seconds : ℕ) (found : Stepped) → IsAnswered found.reply → IsAnswered (unless_misplaced state seconds found).reply
unfolding IsAnswered
placed-answers state seconds found answered e =
    by_place ((peak_in state).height == greatest_height) (nat_lt (peak_in state).seconds seconds) e
  where
    by_place : (high late : Bool) → (if high then (refused state (refusal NotNext 0)) else (if late then found else (refused state (refusal NotLater 0)))).reply ≡ replies.Memory → ⊥
    by_place true late e = cc
    by_place false true e = answered e
    by_place false false e = cc

block-answers : (state : PoolState) (found : BlockVerdict) → IsAnswered (after_block state found).reply
unfolding IsAnswered
block-answers state (Accepts block cost fee) e = cc
block-answers state (Breaks rule place) e = cc

rollback-answers : (state : PoolState) (count : ℕ) → IsAnswered (after_rollback state count).reply
unfolding IsAnswered
rollback-answers state count e = by_count (nat_le count (length state.chain.blocks)) e
  where
    by_count : (enough : Bool) → (if enough then at_peak (rolled_back state count) else refused state (refusal TooFarBack 0)).reply ≡ replies.Memory → ⊥
    by_count true e = cc
    by_count false e = cc

coin-answers : (found : Option Record) → IsAnswered (coin_reply found)
unfolding IsAnswered
coin-answers None e = cc
coin-answers (Some found) e = cc

pub step-is-answered : StepIsAnswered
unfolding step IsAnswered
step-is-answered state (commands.Admit lane bundle) e = admission-answers state (admission state bundle) e
step-is-answered state (commands.Assemble lane seconds reward_hash) e =
    placed-answers state seconds (assembled state (assembly state seconds reward_hash)) (λ e. cc) e
step-is-answered state (commands.Farm lane seconds reward_hash) e =
    placed-answers state seconds (farmed state (assembly state seconds reward_hash)) (λ e. cc) e
step-is-answered state (commands.Block lane bytes) e = block-answers state (block_judgement (terms_of state.limits) (ledger_of state.chain) bytes) e
step-is-answered state (commands.Rollback lane blocks) e = rollback-answers state blocks e
step-is-answered state (commands.Coin lane id) e = coin-answers (look_up (ledger_of state.chain) id) e
step-is-answered state (commands.List lane) e = cc
step-is-answered state (commands.Peak lane) e = cc

-- ---- the state

-- what is answered otherwise than by want of memory goes on to the step's state
by-own : (reply : Reply) (found : Stepped) (state : PoolState) → IsAnswered reply → state_by reply found state ≡ found.state
unfolding IsAnswered
by-own (replies.Admitted id fee cost replaced) found state answered = refl
by-own (replies.Block fee cost bytes) found state answered = refl
by-own (replies.Farmed height hash fee cost bytes) found state answered = refl
by-own (replies.Peak height hash seconds) found state answered = refl
by-own replies.NoCoin found state answered = refl
by-own (replies.Coin parent puzzle_hash amount height seconds spent) found state answered = refl
by-own (replies.Pool ids) found state answered = refl
by-own (replies.Refused rule place) found state answered = refl
by-own replies.Memory found state answered = absurd (answered refl)

one-step : (state next : PoolState) (command : Command) (reply : Reply) → Answers state command reply next → next ≡ state_by reply (step state command) state
unfolding IsAnswered
one-step state next command reply (inl own) =
    own.1 ∙ sym (by-own reply (step state command) state (λ none. step-is-answered state command (sym own.0 ∙ none)))
one-step state next command reply (inr lacks) = lacks.2 ∙ ap (λ reply. state_by reply (step state command) state) (sym lacks.1)

state-from : (opening : Opening) (earlier entries : List Entry) (state end : PoolState) → Leads opening earlier state entries end → end ≡ fold (after_entry opening) state entries
state-from opening earlier [] state end to = sym to
state-from opening earlier (entry ∷ entries) state end to =
    let goes = to.1 in
    state-from opening (earlier ++ entry ∷ []) entries to.0 end to.2
    ∙ ap (λ next. fold (after_entry opening) next entries)
    (one-step state to.0 goes.command entry.reply goes.answers ∙ ap (after_command entry.reply state) (sym goes.this))

pub state-is-of-history : StateIsOfHistory
state-is-of-history opening entries end to = state-from opening [] entries opening.state end to

pub leads-to-one : LeadsToOne
leads-to-one opening entries end other one two = state-is-of-history opening entries end one ∙ sym (state-is-of-history opening entries other two)

-- ---- the lanes

number-of : (lane : ℕ) (earlier entries : List Entry) (entry : Entry) (here : Bool) → (entry.lane == lane) ≡ here → entry.number ≡ done earlier entry.lane
    → numbers_of entries lane ≡ range_with_len (done (earlier ++ entry ∷ []) lane) (done entries lane)
    → numbers_of (entry ∷ entries) lane ≡ range_with_len (done earlier lane) (done (entry ∷ entries) lane)
number-of lane earlier entries entry true is number more =
    let grown : done (earlier ++ entry ∷ []) lane ≡ done earlier lane + 1 =
    sum_by_push (λ one. cond (one.lane == lane) 1 0) earlier entry ∙ ap (λ b. done earlier lane + cond b 1 0) is in
    let count : done (entry ∷ entries) lane ≡ suc (done entries lane) =
    sum_by-cons (λ one. cond (one.lane == lane) 1 0) entry entries ∙ ap (λ b. cond b 1 0 + done entries lane) is ∙ omega arith in
    ap (λ b. map (λ one. one.number) (cond b (entry ∷ filter (λ one. one.lane == lane) entries) (filter (λ one. one.lane == lane) entries))) is
    ∙ (λ j. (number ∙ ap (done earlier) (eqb-true entry.lane lane is)) j ∷ (more ∙ ap (λ from. range_with_len from (done entries lane)) grown) j)
    ∙ ap (range_with_len (done earlier lane)) (sym count)
number-of lane earlier entries entry false is number more =
    let grown : done (earlier ++ entry ∷ []) lane ≡ done earlier lane =
    sum_by_push (λ one. cond (one.lane == lane) 1 0) earlier entry ∙ ap (λ b. done earlier lane + cond b 1 0) is ∙ omega arith in
    let count : done (entry ∷ entries) lane ≡ done entries lane =
    sum_by-cons (λ one. cond (one.lane == lane) 1 0) entry entries ∙ ap (λ b. cond b 1 0 + done entries lane) is ∙ omega arith in
    ap (λ b. map (λ one. one.number) (cond b (entry ∷ filter (λ one. one.lane == lane) entries) (filter (λ one. one.lane == lane) entries))) is
    ∙ more ∙ (λ j. range_with_len (grown j) (sym count j))

numbers-from : (opening : Opening) (lane : ℕ) (earlier entries : List Entry) (state end : PoolState) → Leads opening earlier state entries end
    → numbers_of entries lane ≡ range_with_len (done earlier lane) (done entries lane)
numbers-from opening lane earlier [] state end to = refl
numbers-from opening lane earlier (entry ∷ entries) state end to =
    number-of lane earlier entries entry (entry.lane == lane) refl to.1.number
    (numbers-from opening lane (earlier ++ entry ∷ []) entries to.0 end to.2)

-- a lane of those that are done, which are numbered from here on
done-at : (entries : List Entry) (from lane : ℕ) (lanes : List (List Command)) (commands : List Command) → AreDone entries from lanes
    → slice_get lanes lane ≡ Some commands → done entries (from + lane) ≡ length commands
done-at entries from lane [] commands are found = cc
done-at entries from zero (first ∷ lanes) commands are found = ap (done entries) (omega arith) ∙ are.0 ∙ ap length (inside found)
  where
    inside : Some first ≡ Some commands → first ≡ commands
    inside e = cc
done-at entries from (suc lane) (first ∷ lanes) commands are found =
    ap (done entries) (omega arith) ∙ done-at entries (suc from) lane lanes commands are.1 found

from-zero : (entries : List Entry) (lane : ℕ) → done entries lane ≡ done entries (0 + lane)
from-zero entries lane = ap (done entries) (omega arith)

pub legal-is-in-order : LegalIsInOrder
legal-is-in-order opening entries legal lane commands found =
    numbers-from opening lane [] entries opening.state legal.0.0 legal.0.1
    ∙ ap (range_with_len 0) (from-zero entries lane ∙ done-at entries 0 lane opening.lanes commands legal.1 found)
