-- What a bundle of the pool is priced at: fee and cost of its fit with nothing taken. Source: this project's own.
use Rattle.std.specs.Prelude.{ℕ, ◌*◌, List, map, nat_lt, filter_map, Bool, Option, Some, None, option_map, Result, Ok, Err}
use Rattle.std.specs.List.{sum_by}
use Rattle.block_spec.specs.declared.spend.Spend.{Spend}
use Rattle.block_spec.specs.declared.bundle.Bundle.{Bundle}
use Rattle.chain_spec.specs.Chain.{Ledger}
use Rattle.judge_spec.specs.declared.class.Class.{Class}
use Rattle.judge_spec.specs.declared.limits.Limits.{Limits}
use Rattle.judge_spec.specs.declared.rule.Rule.{Rule}
use Rattle.judge_spec.specs.Rules.{number_of}
use Rattle.judge_spec.specs.Facts.{Facts, facts_of}
use Rattle.judge_spec.specs.Judgement.{Verdict, Fine, Broken, terms_of, judgement}
use Rattle.pool_spec.specs.Classes.{classes_of}
use Rattle.pool_spec.specs.Fit.{nothing_taken, fit_of}

-- a broken rule, with its place
pub record Refusal : Type 0 where
  pub rule : ℕ
  pub place : ℕ

abbrev pub refusal : Rule → ℕ → Refusal
refusal rule place = record { rule = number_of rule; place = place }

abbrev pub refusal_at : Rule → Option ℕ → Option Refusal
refusal_at rule place = option_map (refusal rule) place

abbrev pub if_found : {A E : Type 0} → Result A E → Option A
if_found (Ok found) = Some found
if_found (Err fault) = None

-- the facts of those spends that have some; where a verdict is Fine, of all
abbrev pub facts_in : ℕ → List Spend → List Facts
facts_in limit spends = filter_map (λ spend. if_found (facts_of limit spend)) spends

-- a bundle, with facts and classes of its fit's spends place by place, and the fit's fee and cost
pub record Priced : Type 0 where
  pub bundle : Bundle
  pub fit : List Facts
  pub classes : List Class
  pub fee : ℕ
  pub cost : ℕ

abbrev pub price_by : Bundle → List Facts → List Class → Verdict → Result Priced Refusal
price_by bundle fit classes (Fine cost fee) = Ok (record { bundle = bundle; fit = fit; classes = classes; fee = fee; cost = cost })
price_by bundle fit classes (Broken rule place) = Err (record { rule = rule; place = place })

-- by the verdict on the fit with nothing taken
unfoldable pub priced : Limits → Ledger → Bundle → Result Priced Refusal
priced limits ledger bundle =
    let fit = fit_of limits ledger nothing_taken bundle in
    price_by bundle (facts_in limits.max_cost fit) (classes_of limits bundle)
    (judgement (terms_of limits) ledger fit bundle.attested)

abbrev pub bundles_of : List Priced → List Bundle
bundles_of items = map (λ item. item.bundle) items

abbrev pub fees_of : List Priced → ℕ
fees_of items = sum_by (λ item. item.fee) items

abbrev pub costs_of : List Priced → ℕ
costs_of items = sum_by (λ item. item.cost) items

-- Fees per cost are compared exactly, as fractions of whole numbers.
abbrev pub is_higher_rate : (fee cost : ℕ) → (other_fee other_cost : ℕ) → Bool
is_higher_rate fee cost other_fee other_cost = nat_lt (other_fee * cost) (fee * other_cost)
