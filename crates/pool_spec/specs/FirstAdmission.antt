-- Admission of a payment to an empty pool, as the pool's body works it out so far. Source: this project's own. What stands
-- here goes when the pool admits all bundles.
use Rattle.std.specs.Prelude.{ℕ, ◌+◌, List, [], ◌∷◌, ◌++◌, nat_lt, if◌then◌else◌}
use Rattle.std.specs.List.{sum_by}
use Rattle.coin_facts.specs.declared.hash32.Hash32.{Hash32}
use Rattle.block_spec.specs.declared.bundle.Bundle.{Bundle}
use Rattle.block_spec.specs.BundleTree.{bundle_id}
use Rattle.chain_spec.specs.Chain.{ledger_of}
use Rattle.judge_spec.specs.Judgement.{Verdict, Fine, Broken, terms_of, judgement}
use Rattle.pool_spec.specs.FirstJudgement.{cost_of}
use Rattle.pool_spec.specs.Pool.{PoolState}
use Rattle.judge_spec.specs.declared.rule.Rule.TheVariants.{PoolIsFull}
use Rattle.judge_spec.specs.Rules.{number_of}

pub data FirstAdmission : Type 0 where
  -- the bundle's id, fee and cost, and the ids of the bundles that it replaces
  Admitted : (id : Hash32) (fee cost : ℕ) (replaced : List Hash32) → FirstAdmission
  Refused : (rule place : ℕ) → FirstAdmission

-- what the bundles of the pool cost together
abbrev pub cost_of_bundles : List Bundle → ℕ
cost_of_bundles bundles = sum_by (λ bundle. cost_of bundle.spends) bundles

-- Rule 34: with this bundle the pool would cost more than it may.
abbrev pub within_capacity : PoolState → Bundle → ℕ → ℕ → FirstAdmission
within_capacity state bundle cost fee =
    if nat_lt state.limits.pool_cost (cost_of_bundles state.bundles + cost) then Refused (number_of PoolIsFull) 0 else Admitted (bundle_id bundle) fee cost []

abbrev pub admission_by : PoolState → Bundle → Verdict → FirstAdmission
admission_by state bundle (Fine cost fee) = within_capacity state bundle cost fee
admission_by state bundle (Broken rule place) = Refused rule place

-- The bundle's spends are judged on the chain, and then the pool's capacity is looked at.
abbrev pub first_admission : PoolState → Bundle → FirstAdmission
first_admission state bundle =
    admission_by state bundle (judgement (terms_of state.limits) (ledger_of state.chain) bundle.spends bundle.attested)

-- An admitted bundle goes last; a refusal changes nothing.
abbrev pub state_after : PoolState → Bundle → FirstAdmission → PoolState
state_after state bundle (Admitted id fee cost replaced) = record state { bundles = state.bundles ++ bundle ∷ [] }
state_after state bundle (Refused rule place) = state

abbrev pub after_admission : PoolState → Bundle → PoolState
after_admission state bundle = state_after state bundle (first_admission state bundle)
