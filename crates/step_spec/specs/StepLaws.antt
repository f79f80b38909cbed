-- Laws of histories, each proved once for the crates above. They follow from the definitions.
use Rattle.std.specs.Prelude.{◌≡◌, ℕ, ◌==◌, List, ◌++◌, map, filter, length, slice_get, Some}
use Rattle.std.specs.List.{range_with_len}
use Rattle.pool_spec.specs.Pool.{PoolState}
use Rattle.pool_spec.specs.PoolLaws.{AllArePriced}
use Rattle.step_spec.specs.declared.command.Command.{Command}
use Rattle.step_spec.specs.declared.reply.Reply.TheVariants.{Memory}
use Rattle.step_spec.specs.declared.entry.Entry.{Entry}
use Rattle.step_spec.specs.Steps.{step}
use Rattle.step_spec.specs.Histories.{Opening, Leads, LeadsTo, state_after, IsLegal}

-- What leads to a state, and on from it, leads over both lists.
abbrev pub LeadsOn : Type 0
LeadsOn = (opening : Opening) (earlier first later : List Entry) (state middle end : PoolState) →
    Leads opening earlier state first middle → Leads opening (earlier ++ first) middle later end →
    Leads opening earlier state (first ++ later) end

-- Of what leads, the beginning leads to some state, and the rest on from it.
abbrev pub BeginningLeads : Type 0
BeginningLeads = (opening : Opening) (earlier first later : List Entry) (state end : PoolState) →
    Leads opening earlier state (first ++ later) end →
    (middle : PoolState) × Leads opening earlier state first middle × Leads opening (earlier ++ first) middle later end

-- A step's own reply is never want of memory.
abbrev pub StepIsAnswered : Type 0
StepIsAnswered = (state : PoolState) (command : Command) → (step state command).reply ≡ Memory → ⊥

-- A history leads to one state alone, which is a function of it.
abbrev pub StateIsOfHistory : Type 0
StateIsOfHistory = (opening : Opening) (entries : List Entry) (end : PoolState) → LeadsTo opening entries end → end ≡ state_after opening entries

abbrev pub LeadsToOne : Type 0
LeadsToOne = (opening : Opening) (entries : List Entry) (end other : PoolState) →
    LeadsTo opening entries end → LeadsTo opening entries other → end ≡ other

-- which of a lane's commands the entries answer, in their order
abbrev pub numbers_of : List Entry → ℕ → List ℕ
numbers_of entries lane = map (λ entry. entry.number) (filter (λ entry. entry.lane == lane) entries)

-- A legal history answers each command of a lane once, and in the lane's order.
abbrev pub LegalIsInOrder : Type 0
LegalIsInOrder = (opening : Opening) (entries : List Entry) → IsLegal opening entries →
    (lane : ℕ) (commands : List Command) → slice_get opening.lanes lane ≡ Some commands →
    numbers_of entries lane ≡ range_with_len 0 (length commands)

-- Where every bundle of the opening's pool has a price, so has every one of a pool to which a history leads.
abbrev pub StepKeepsPriced : Type 0
StepKeepsPriced = (state : PoolState) (command : Command) → AllArePriced state → AllArePriced (step state command).state

abbrev pub HistoryKeepsPriced : Type 0
HistoryKeepsPriced = (opening : Opening) (entries : List Entry) (end : PoolState) → AllArePriced opening.state →
    LeadsTo opening entries end → AllArePriced end
