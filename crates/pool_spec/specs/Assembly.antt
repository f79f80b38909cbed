-- The block that a pool assembles. Source: this project's own.
use Rattle.std.specs.Prelude.{ℕ, suc, ◌&&◌, List, [], ◌∷◌, ◌++◌, map, filter, zip, fold, Bool, false, not, if◌then◌else◌}
use Rattle.std.specs.List.{list_any}
use Rattle.std.specs.Str.{bytes_eq}
use Rattle.coin_facts.specs.declared.hash32.Hash32.{Hash32}
use Rattle.coin_facts.specs.CoinId.{coin_id}
use Rattle.coin_facts.specs.IdLists.{is_same_id}
use Rattle.block_spec.specs.declared.spend.Spend.{Spend}
use Rattle.block_spec.specs.declared.attested.Signed.{Signed}
use Rattle.block_spec.specs.declared.block.Block.{Block}
use Rattle.chain_spec.specs.declared.chain.Peak.{Peak}
use Rattle.chain_spec.specs.Chain.{Ledger, ledger_of}
use Rattle.judge_spec.specs.declared.class.Class.{Class}
use Rattle.judge_spec.specs.declared.class.Class.TheVariants.{Plain, Same, Forward}
use Rattle.judge_spec.specs.declared.limits.Limits.{Limits}
use Rattle.judge_spec.specs.Facts.{Facts}
use Rattle.judge_spec.specs.Judgement.{Verdict, Fine, Broken, terms_of, spends_in, cost_of, fee_of, judgement}
use Rattle.pool_spec.specs.Fit.{taken_of, fit_of}
use Rattle.pool_spec.specs.Prices.{Priced, facts_in, is_higher_rate}
use Rattle.pool_spec.specs.Replacement.{has_same_codes}
use Rattle.pool_spec.specs.Pool.{PoolState, priced_in}

-- ---- the order

-- in front of those whose fee per cost isn't higher
abbrev pub put_by_rate : Priced → List Priced → List Priced
put_by_rate item [] = item ∷ []
put_by_rate item (other ∷ others) =
    if is_higher_rate other.fee other.cost item.fee item.cost then other ∷ put_by_rate item others else item ∷ other ∷ others

-- by fee per cost, larger first, ties by admission
abbrev pub by_rate : List Priced → List Priced
by_rate [] = []
by_rate (item ∷ items) = put_by_rate item (by_rate items)

-- ---- identical spends

abbrev pub is_identical : Spend → Spend → Bool
is_identical one other = is_same_id (coin_id one.coin) (coin_id other.coin) && has_same_codes one other

-- A Same spend is left out whose coin, puzzle and solution equal those of a taken spend.
abbrev pub is_left_out : List Spend → Class → Spend → Bool
is_left_out taken Same spend = list_any (is_identical spend) taken
is_left_out taken Plain spend = false
is_left_out taken Forward spend = false

-- of spends, or of what stands for spends, those that aren't left out, by their classes place by place
abbrev pub unlike : {A : Type 0} → (A → Spend) → List A → List Class → List Spend → List A
unlike spend_of list classes taken =
    map (λ pair. pair.0) (filter (λ pair. not (is_left_out taken pair.1 (spend_of pair.0))) (zip list classes))

-- ---- attested pairs

abbrev pub is_same_pair : Signed → Signed → Bool
is_same_pair one other = bytes_eq one.key other.key && bytes_eq one.message other.message

abbrev pub with_pair : List Signed → Signed → List Signed
with_pair attested signed = if list_any (is_same_pair signed) attested then attested else attested ++ signed ∷ []

-- in order, without repeats
abbrev pub with_pairs : List Signed → List Signed → List Signed
with_pairs attested more = fold with_pair attested more

-- ---- filling a block

-- what is taken so far: the facts of its spends, and what is attested
pub record Filling : Type 0 where
  pub taken : List Facts
  pub attested : List Signed

-- the spends of a bundle's fit with these taken, less identical Same spends
abbrev pub added_by : Limits → Ledger → Filling → Priced → List Spend
added_by limits ledger filling item =
    unlike (λ spend. spend) (fit_of limits ledger (taken_of filling.taken) item.bundle) item.classes (spends_in filling.taken)

abbrev pub if_fine : Verdict → Filling → Filling → Filling
if_fine (Fine cost fee) grown filling = grown
if_fine (Broken rule place) grown filling = filling

-- A bundle is taken exactly where all taken spends and then its own are Fine with the attested pairs of both.
unfoldable pub filled : Limits → Ledger → Filling → Priced → Filling
filled limits ledger filling item =
    let added = added_by limits ledger filling item in
    let attested = with_pairs filling.attested item.bundle.attested in
    if_fine (judgement (terms_of limits) ledger (spends_in filling.taken ++ added) attested)
    (record { taken = filling.taken ++ facts_in limits.max_cost added; attested = attested }) filling

-- what the bundles of the pool fill a block with
abbrev pub filling_of : PoolState → Filling
filling_of state = fold (filled state.limits (ledger_of state.chain)) (record { taken = []; attested = [] }) (by_rate (priced_in state))

-- ---- the block

pub record Assembled : Type 0 where
  pub block : Block
  pub fee : ℕ
  pub cost : ℕ

-- the block of a filling, on this peak
abbrev pub block_on : Peak → (seconds : ℕ) → (reward_hash : Hash32) → Filling → Block
block_on peak seconds reward_hash filling = record {
  previous = peak.hash;
  height = suc peak.height;
  seconds = seconds;
  reward_hash = reward_hash;
  spends = spends_in filling.taken;
  attested = filling.attested;
}

unfoldable pub assembly : PoolState → (seconds : ℕ) → (reward_hash : Hash32) → Assembled
assembly state seconds reward_hash =
    let filling = filling_of state in
    let peak = (ledger_of state.chain).peak in
    record {
      block = block_on peak seconds reward_hash filling;
      fee = fee_of filling.taken;
      cost = cost_of (terms_of state.limits) peak filling.taken;
    }
