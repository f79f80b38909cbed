-- The verdict on a list of spends: the first broken of the rules 2 to 23, or its cost and its fee. Source: Chia documentation
-- of the coin set and of the mempool; the order of the rules, and the cost of a list, are this project's own.
use Rattle.std.specs.Prelude.{ℕ, ◌+◌, ◌*◌, ◌-◌, List, [], ◌∷◌, ◌++◌, length, map, nat_lt, Option, Some, None, Result, Ok, Err, if◌then◌else◌}
use Rattle.std.specs.List.{sum_by}
use Rattle.coin_facts.specs.CoinId.{coin_id}
use Rattle.coin_facts.specs.IdLists.{repeat_behind}
use Rattle.block_spec.specs.declared.spend.Spend.{Spend}
use Rattle.block_spec.specs.declared.attested.Signed.{Signed}
use Rattle.block_spec.specs.Added.{generator_bytes}
use Rattle.chain_spec.specs.declared.chain.Peak.{Peak}
use Rattle.chain_spec.specs.Chain.{Ledger}
use Rattle.cond_spec.specs.Acts.{spent_amounts, created_amounts}
use Rattle.judge_spec.specs.declared.costs.TheConstants.{BYTE_COST}
use Rattle.judge_spec.specs.declared.limits.Limits.{Limits}
use Rattle.judge_spec.specs.declared.rule.Rule.{Rule}
use Rattle.judge_spec.specs.declared.rule.Rule.TheVariants.{SpentTwice, TooCostly}
use Rattle.judge_spec.specs.Rules.{number_of}
use Rattle.judge_spec.specs.Facts.{Facts, acts_of, Breach, rule_of, facts_of}
use Rattle.judge_spec.specs.Checks.{Terms, Scene, Check, checks_of_spent_coins, check_of_new_coins}

pub data Verdict : Type 0 where
  Fine : (cost fee : ℕ) → Verdict
  Broken : (rule place : ℕ) → Verdict

-- A rule that is broken somewhere is answered, else what comes after it.
abbrev pub unless_broken : Rule → Option ℕ → Verdict → Verdict
unless_broken rule None verdict = verdict
unless_broken rule (Some place) verdict = Broken (number_of rule) place

abbrev pub terms_of : Limits → Terms
terms_of limits = record { limit = limits.max_cost }

-- ---- cost and fee

-- what a spend's run and conditions are charged on a chain of this peak
abbrev pub charged : Terms → Peak → Facts → ℕ
charged terms peak facts = facts.cost

abbrev pub spends_in : List Facts → List Spend
spends_in list = map (λ facts. facts.spend) list

-- each byte of the generator, and what the spends are charged
abbrev pub cost_of : Terms → Peak → List Facts → ℕ
cost_of terms peak list = BYTE_COST * generator_bytes (spends_in list) + sum_by (charged terms peak) list

-- the spent amounts less the created ones
abbrev pub fee_of : List Facts → ℕ
fee_of list = spent_amounts (map acts_of list) - created_amounts (map acts_of list)

-- ---- the rules in order

-- Rule 2: a coin is spent twice; at the second spend of it.
abbrev pub spent_twice : List Spend → Option ℕ
spent_twice spends = repeat_behind [] 0 (map (λ spend. coin_id spend.coin) spends)

abbrev pub first_broken : List Check → Scene → Verdict → Verdict
first_broken [] scene verdict = verdict
first_broken (check ∷ checks) scene verdict = unless_broken check.rule (check.broken_at scene) (first_broken checks scene verdict)

-- Rules 11 to 23, asked one after the other over all spends.
abbrev pub judged : Scene → Verdict
judged scene =
    first_broken (checks_of_spent_coins ++ check_of_new_coins ∷ []) scene
    (Fine (cost_of scene.terms scene.ledger.peak scene.list) (fee_of scene.list))

-- Rule 5, second part: the cost of the list up to and including this spend is over the limit.
abbrev pub within_limit : Terms → Peak → List Facts → Facts → Verdict → Verdict
within_limit terms peak earlier facts verdict =
    if nat_lt terms.limit (cost_of terms peak (earlier ++ facts ∷ [])) then Broken (number_of TooCostly) (length earlier) else verdict

abbrev pub if_facts : ℕ → Result Facts Breach → (Facts → Verdict) → Verdict
if_facts place (Ok facts) go = go facts
if_facts place (Err breach) go = Broken (number_of (rule_of breach)) place

-- Rules 3 to 10 and the second part of rule 5, spend by spend.
abbrev pub with_facts : Terms → Peak → List Facts → List Spend → (List Facts → Verdict) → Verdict
with_facts terms peak earlier [] go = go earlier
with_facts terms peak earlier (spend ∷ spends) go =
    if_facts (length earlier) (facts_of terms.limit spend) (λ facts.
    within_limit terms peak earlier facts (with_facts terms peak (earlier ++ facts ∷ []) spends go))

unfoldable pub judgement : Terms → Ledger → List Spend → List Signed → Verdict
judgement terms ledger spends attested =
    unless_broken SpentTwice (spent_twice spends) (with_facts terms ledger.peak [] spends (λ list.
    judged (record { terms = terms; ledger = ledger; list = list; attested = attested })))

-- ---- the same of facts that were found before

abbrev pub with_costs : Terms → Peak → List Facts → List Facts → Verdict → Verdict
with_costs terms peak earlier [] verdict = verdict
with_costs terms peak earlier (facts ∷ list) verdict =
    within_limit terms peak earlier facts (with_costs terms peak (earlier ++ facts ∷ []) list verdict)

unfoldable pub judgement_of_facts : Terms → Ledger → List Facts → List Signed → Verdict
judgement_of_facts terms ledger list attested =
    unless_broken SpentTwice (spent_twice (spends_in list)) (with_costs terms ledger.peak [] list
    (judged (record { terms = terms; ledger = ledger; list = list; attested = attested })))
