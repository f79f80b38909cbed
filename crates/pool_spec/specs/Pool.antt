-- The pool, admission to it, and what a change of the peak leaves of it. Source: Chia documentation of the mempool; the
-- capacity, the order of the rules, and what stays, are this project's own.
use Rattle.std.specs.Prelude.{ℕ, ◌+◌, ◌==◌, List, [], ◌∷◌, ◌++◌, length, map, nat_lt, filter_map, position, Option, Some, None, Result, Ok, Err, if◌then◌else◌}
use Rattle.coin_facts.specs.declared.hash32.Hash32.{Hash32}
use Rattle.coin_facts.specs.IdLists.{is_same_id}
use Rattle.coin_facts.specs.Steps.{when}
use Rattle.block_spec.specs.declared.bundle.Bundle.{Bundle}
use Rattle.block_spec.specs.BundleTree.{bundle_id}
use Rattle.chain_spec.specs.Chain.{Chain, ledger_of}
use Rattle.judge_spec.specs.declared.limits.Limits.{Limits}
use Rattle.judge_spec.specs.declared.rule.Rule.TheVariants.{NoSpend, InPool, PoolIsFull}
use Rattle.pool_spec.specs.Prices.{Refusal, refusal, refusal_at, if_found, Priced, priced, bundles_of, costs_of}
use Rattle.pool_spec.specs.Replacement.{replaced_by, kept_by, unreplaced}

-- a chain, its limits, and the bundles in the order in which they were admitted
pub record PoolState : Type 0 where
  pub chain : Chain
  pub limits : Limits
  pub bundles : List Bundle

-- the bundles that are priced on the chain, in order; in a pool that admissions and peak changes made these are all
abbrev pub priced_in : PoolState → List Priced
priced_in state = filter_map (λ bundle. if_found (priced state.limits (ledger_of state.chain) bundle)) state.bundles

-- ---- admission

-- what an admission tells: the bundle's id, fee and cost, and the ids of the bundles that it replaces, in pool order
pub record AdmittedView : Type 0 where
  pub id : Hash32
  pub fee : ℕ
  pub cost : ℕ
  pub replaced : List Hash32

pub data Admission : Type 0 where
  Admits : AdmittedView → PoolState → Admission
  Refuses : Refusal → Admission

abbrev pub unless_refused : Option Refusal → Admission → Admission
unless_refused None admission = admission
unless_refused (Some refusal) admission = Refuses refusal

abbrev pub where_ok : {A : Type 0} → Result A Refusal → (A → Admission) → Admission
where_ok (Ok found) go = go found
where_ok (Err refusal) go = Refuses refusal

-- Rule 30: the bundle's id is in the pool; at its place there.
abbrev pub in_pool : PoolState → Bundle → Option ℕ
in_pool state bundle = position (λ other. is_same_id (bundle_id other) (bundle_id bundle)) state.bundles

-- Rule 1: a bundle has no spend.
abbrev pub no_spend : Bundle → Option ℕ
no_spend bundle = when (length bundle.spends == 0) 0

-- Rule 34: the pool's cost, without the replaced bundles and with the new one, would be over its capacity. What stays is told.
abbrev pub with_room : Limits → (rest : List Priced) → Priced → Result (List Priced) Refusal
with_room limits rest new = if nat_lt limits.pool_cost (costs_of rest + new.cost) then Err (refusal PoolIsFull 0) else Ok rest

abbrev pub told_of : Priced → List Priced → AdmittedView
told_of new items = record {
  id = bundle_id new.bundle;
  fee = new.fee;
  cost = new.cost;
  replaced = map bundle_id (bundles_of (replaced_by new items));
}

-- The replaced bundles leave, and the new one goes last.
abbrev pub entered : PoolState → List Priced → Priced → PoolState
entered state rest new = record state { bundles = bundles_of rest ++ new.bundle ∷ [] }

-- 30, 1, then 2 to 23 on the bundle's fit with nothing taken, then 31 to 34
unfoldable pub admission : PoolState → Bundle → Admission
admission state bundle =
    let items = priced_in state in
    unless_refused (refusal_at InPool (in_pool state bundle))
    (unless_refused (refusal_at NoSpend (no_spend bundle))
    (where_ok (priced state.limits (ledger_of state.chain) bundle) (λ new.
    unless_refused (unreplaced new items)
    (where_ok (with_room state.limits (kept_by new items) new) (λ rest.
    Admits (told_of new items) (entered state rest new))))))

-- ---- after a change of the peak

-- The bundles stay, in order, whose fit with nothing taken is Fine on the present chain. Two that now conflict both stay.
abbrev pub after_peak_change : PoolState → PoolState
after_peak_change state = record state { bundles = bundles_of (priced_in state) }
