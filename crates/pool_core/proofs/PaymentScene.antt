-- The rules 11 to 23 on payments: 13 to 23 aren't broken.
use Rattle.std.proofs.Common.{◌≡◌, ℕ, ◌+◌, ◌-◌, ◌*◌, Bool, true, false, ◌&&◌, ◌||◌, not, nat_lt, nat_le, Option, Some, None, List, [], ◌∷◌, ◌++◌, length, map, refl, ap, ap₂, sym, ◌∙◌, subst, arith}
use Rattle.std.specs.Prelude.{position, is_none}
use Rattle.std.specs.List.{sum_by, flat_map, list_any, list_all}
use Rattle.std.proofs.lemmas.Bool.Decides.{nat_tests}
use Rattle.std.proofs.lemmas.List.{map-append}
use Rattle.std.proofs.lemmas.List.Sums.{sum_by-cons}
use Rattle.coin_facts.specs.declared.hash32.Hash32.{Hash32}
use Rattle.coin_facts.specs.declared.coin.Coin.{Coin}
use Rattle.coin_facts.specs.CoinId.{coin_id}
use Rattle.coin_facts.specs.Steps.{when}
use Rattle.coin_facts.specs.IdLists.{is_among, repeat_behind}
use Rattle.block_spec.specs.declared.spend.Spend.{Spend}
use Rattle.block_spec.specs.declared.attested.Signed.{Signed}
use Rattle.block_spec.specs.Added.{generator_bytes}
use Rattle.chain_spec.specs.declared.chain.Record.{Record}
use Rattle.chain_spec.specs.declared.chain.Peak.{Peak}
use Rattle.chain_spec.specs.Chain.{Chain, Ledger, look_up, is_in_chain, ledger_of}
use Rattle.cond_spec.specs.declared.condition.Condition.{Condition}
use Rattle.cond_spec.specs.declared.condition.Condition.TheVariants as conditions
use Rattle.cond_spec.specs.Acts as acts
use Rattle.cond_spec.specs.Acts.{Acts, of_spend, coin_made, fee_reserved, reserved_fees}
use Rattle.cond_spec.specs.Messages.{sent, received}
use Rattle.cond_spec.specs.Locks.{to_reach, to_precede, looks_at_record}
use Rattle.cond_spec.specs.Signing.{to_sign}
use Rattle.cond_spec.specs.ActRules.{same_output, is_unmade, is_absent, is_born_before, is_uneven, unmade_announcement, absent_spend, not_ephemeral, uneven_message, creates_too_much, lacks_reserved_fee}
use Rattle.judge_spec.specs.declared.costs.TheConstants.{BYTE_COST}
use Rattle.judge_spec.specs.declared.rule.Rule.TheVariants as rules
use Rattle.judge_spec.specs.Facts.{Facts, acts_of}
use Rattle.judge_spec.specs.Locked.{is_reached, is_ahead}
use Rattle.judge_spec.specs.Checks.{Terms, Scene, first_spend, is_unknown, is_spent_in_chain, is_other_birth, has_other_birth, has_wrong_birth, is_created, is_too_early, is_too_late, is_attested, is_not_attested, created_by_each, coin_exists}
use Rattle.judge_spec.specs.Judgement.{Verdict, Fine, unless_broken, charged, spends_in, cost_of, fee_of, judged}
use Rattle.pool_spec.specs.FirstConditions as first
use Rattle.pool_spec.specs.FirstJudgement as first_judged
use Rattle.pool_spec.specs.FirstJudgement.{facts_or_none, coin_of, coins_made_by, unknown_coin, spent_coin, unless_spent}
use Rattle.pool_core.proofs.JudgeLaws.{position-map}
use Rattle.pool_core.proofs.PaymentFacts.{created_by, as_facts, any-created, position-nowhere}
use Rattle.pool_core.proofs.FreshIds.{Fresh, fresh-from, fresh-front, fresh-back, together, no_old_id, any_there, no_same_output}

abbrev pub as_acts : Spend → Acts
as_acts spend = acts_of (as_facts spend)

abbrev pub all_acts : List Spend → List Acts
all_acts spends = map acts_of (map as_facts spends)

acts-once : (spends : List Spend) → all_acts spends ≡ map as_acts spends
acts-once [] = refl
acts-once (spend ∷ spends) = ap (λ list. as_acts spend ∷ list) (acts-once spends)

-- ---- what payments make

made-coins : (coin : Coin) (cs : List first.Condition) → flat_map (coin_made coin) (map created_by cs) ≡ map (coin_of (coin_id coin)) cs
made-coins coin [] = refl
made-coins coin (first.CreateCoin hash amount ∷ cs) = ap (λ coins. coin_of (coin_id coin) (first.CreateCoin hash amount) ∷ coins) (made-coins coin cs)

made-list : (spends : List Spend) → acts.created_coins (all_acts spends) ≡ first_judged.created_coins spends
made-list [] = refl
made-list (spend ∷ spends) = λ j. made-coins spend.coin (facts_or_none spend).conditions j ++ made-list spends j

pub made-ids : (spends : List Spend) → acts.created_ids (all_acts spends) ≡ first_judged.created_ids spends
made-ids spends = ap (map coin_id) (made-list spends)

made-amounts : (spends : List Spend) → acts.created_amounts (all_acts spends) ≡ first_judged.created_amounts spends
made-amounts spends = ap (sum_by (λ coin. coin.amount)) (made-list spends)

spent-amounts : (spends : List Spend) → acts.spent_amounts (all_acts spends) ≡ first_judged.spent_amounts spends
spent-amounts [] = refl
spent-amounts (spend ∷ spends) =
    sum_by-cons (λ given. given.coin.amount) (as_acts spend) (all_acts spends)
    ∙ ap (λ n. spend.coin.amount + n) (spent-amounts spends)
    ∙ sym (sum_by-cons (λ spent. spent.coin.amount) spend spends)

reserved-none : (cs : List first.Condition) → sum_by fee_reserved (map created_by cs) ≡ 0
reserved-none [] = refl
reserved-none (first.CreateCoin hash amount ∷ cs) = sum_by-cons fee_reserved (conditions.CreateCoin hash amount) (map created_by cs) ∙ ap (λ n. 0 + n) (reserved-none cs)

reserved-nothing : (spends : List Spend) → reserved_fees (all_acts spends) ≡ 0
reserved-nothing [] = refl
reserved-nothing (spend ∷ spends) =
    sum_by-cons (λ given. sum_by fee_reserved given.conditions) (as_acts spend) (all_acts spends)
    ∙ (λ j. reserved-none (facts_or_none spend).conditions j + reserved-nothing spends j)

pub created-each : (spends : List Spend) → together (created_by_each (all_acts spends)) ≡ first_judged.created_ids spends
created-each [] = refl
created-each (spend ∷ spends) =
    (λ j. map coin_id (made-coins spend.coin (facts_or_none spend).conditions j) ++ created-each spends j)
    ∙ sym (map-append coin_id (coins_made_by spend) (first_judged.created_coins spends))

-- ---- cost and fee

same-spends : (spends : List Spend) → spends_in (map as_facts spends) ≡ spends
same-spends [] = refl
same-spends (spend ∷ spends) = ap (λ others. spend ∷ others) (same-spends spends)

same-charges : (terms : Terms) (peak : Peak) (spends : List Spend) → sum_by (charged terms peak) (map as_facts spends) ≡ sum_by (λ spend. (facts_or_none spend).cost) spends
same-charges terms peak [] = refl
same-charges terms peak (spend ∷ spends) =
    sum_by-cons (charged terms peak) (as_facts spend) (map as_facts spends)
    ∙ ap (λ n. (facts_or_none spend).cost + n) (same-charges terms peak spends)
    ∙ sym (sum_by-cons (λ one. (facts_or_none one).cost) spend spends)

pub same-cost : (terms : Terms) (peak : Peak) (spends : List Spend) → cost_of terms peak (map as_facts spends) ≡ first_judged.cost_of spends
same-cost terms peak spends = λ j. BYTE_COST * generator_bytes (same-spends spends j) + same-charges terms peak spends j

pub same-fee : (spends : List Spend) → fee_of (map as_facts spends) ≡ first_judged.fee_of spends
same-fee spends = λ j. spent-amounts spends j - made-amounts spends j

-- ---- rules that aren't broken

silent : {A : Type 0} (given : Coin → Condition → List A) (coin : Coin) (cs : List first.Condition) → ((hash : Hash32) (amount : ℕ) → given coin (conditions.CreateCoin hash amount) ≡ []) → flat_map (given coin) (map created_by cs) ≡ []
silent given coin [] quiet = refl
silent given coin (first.CreateCoin hash amount ∷ cs) quiet = λ j. quiet hash amount j ++ silent given coin cs quiet j

nowhere : (test : Acts → Bool) (spends : List Spend) → ((spend : Spend) → test (as_acts spend) ≡ false) → position test (all_acts spends) ≡ None
nowhere test spends quiet = ap (position test) (acts-once spends) ∙ position-nowhere test as_acts spends quiet

when-not : (test : Bool) (n : ℕ) → test ≡ false → when test n ≡ None
when-not test n e = ap (λ b. when b n) e

not-less : (a b : ℕ) → nat_le a b ≡ true → nat_lt b a ≡ false
not-less a b h = grind (arith, nat_tests)

and-false : (b : Bool) → (b && false) ≡ false
and-false true = refl
and-false false = refl

other-birth : (found : Option Record) (cs : List first.Condition) → has_other_birth found (map created_by cs) ≡ false
other-birth (Some found) cs = any-created (is_other_birth found) cs (λ hash amount. refl)
other-birth None cs = refl

module _ (terms : Terms) (chain : Chain) (spends : List Spend) (attested : List Signed) where
  scene : Scene
  scene = record { terms = terms; ledger = ledger_of chain; list = map as_facts spends; attested = attested }

  unknown : first_spend is_unknown scene ≡ unknown_coin chain spends
  unfolding scene
  unknown =
      position-map (is_unknown scene) as_facts spends
      ∙ ap (λ made. position (λ spend. not (is_in_chain (ledger_of chain) (coin_id spend.coin) || is_among made (coin_id spend.coin))) spends) (made-ids spends)

  spent : first_spend is_spent_in_chain scene ≡ spent_coin chain spends
  unfolding scene
  spent = position-map (is_spent_in_chain scene) as_facts spends

  birth : first_spend has_wrong_birth scene ≡ None
  unfolding scene
  birth =
      position-nowhere (has_wrong_birth scene) as_facts spends (λ spend.
      (λ j. other-birth (look_up (ledger_of chain) (coin_id spend.coin)) (facts_or_none spend).conditions j || (is_created scene (as_facts spend) && any-created looks_at_record (facts_or_none spend).conditions (λ hash amount. refl) j))
      ∙ and-false (is_created scene (as_facts spend)))

  early : first_spend is_too_early scene ≡ None
  unfolding scene
  early = position-nowhere (is_too_early scene) as_facts spends (λ spend. ap (λ locks. not (list_all (is_reached (ledger_of chain)) locks)) (silent to_reach spend.coin (facts_or_none spend).conditions (λ hash amount. refl)))

  late : first_spend is_too_late scene ≡ None
  unfolding scene
  late = position-nowhere (is_too_late scene) as_facts spends (λ spend. ap (λ locks. not (list_all (is_ahead (ledger_of chain)) locks)) (silent to_precede spend.coin (facts_or_none spend).conditions (λ hash amount. refl)))

  unsigned : first_spend is_not_attested scene ≡ None
  unfolding scene
  unsigned = position-nowhere (is_not_attested scene) as_facts spends (λ spend. ap (λ pairs. not (list_all (is_attested attested) pairs)) (silent (to_sign (ledger_of chain).genesis) spend.coin (facts_or_none spend).conditions (λ hash amount. refl)))

  unmade : unmade_announcement (all_acts spends) ≡ None
  unmade = nowhere (λ given. list_any (is_unmade (all_acts spends)) given.conditions) spends (λ spend. any-created (is_unmade (all_acts spends)) (facts_or_none spend).conditions (λ hash amount. refl))

  absent : absent_spend (all_acts spends) ≡ None
  absent = nowhere (λ given. list_any (is_absent (all_acts spends)) given.conditions) spends (λ spend. any-created (is_absent (all_acts spends)) (facts_or_none spend).conditions (λ hash amount. refl))

  ephemeral : not_ephemeral (all_acts spends) ≡ None
  ephemeral = nowhere (λ given. list_any (is_born_before (all_acts spends) given.coin) given.conditions) spends (λ spend. any-created (is_born_before (all_acts spends) spend.coin) (facts_or_none spend).conditions (λ hash amount. refl))

  uneven : uneven_message (all_acts spends) ≡ None
  uneven = nowhere (λ given. list_any (is_uneven (all_acts spends)) (of_spend sent given ++ of_spend received given)) spends (λ spend j.
      list_any (is_uneven (all_acts spends)) (silent sent spend.coin (facts_or_none spend).conditions (λ hash amount. refl) j ++ silent received spend.coin (facts_or_none spend).conditions (λ hash amount. refl) j))

  module _ (covered : nat_le (first_judged.created_amounts spends) (first_judged.spent_amounts spends) ≡ true) where
    too-much : creates_too_much (all_acts spends) ≡ None
    too-much =
        when-not (nat_lt (acts.spent_amounts (all_acts spends)) (acts.created_amounts (all_acts spends))) (length (all_acts spends))
        ((λ j. nat_lt (spent-amounts spends j) (made-amounts spends j)) ∙ not-less (first_judged.created_amounts spends) (first_judged.spent_amounts spends) covered)

    fee-kept : lacks_reserved_fee (all_acts spends) ≡ None
    fee-kept =
        when-not (nat_lt (acts.spent_amounts (all_acts spends)) (acts.created_amounts (all_acts spends) + reserved_fees (all_acts spends))) (length (all_acts spends))
        ((λ j. nat_lt (spent-amounts spends j) (made-amounts spends j + reserved-nothing spends j))
        ∙ ap (nat_lt (first_judged.spent_amounts spends)) (omega arith)
        ∙ not-less (first_judged.created_amounts spends) (first_judged.spent_amounts spends) covered)

    module _ (once : repeat_behind [] 0 (first_judged.created_ids spends) ≡ None) (new : list_all (λ id. not (is_in_chain (ledger_of chain) id)) (first_judged.created_ids spends) ≡ true) where
      exists : coin_exists scene ≡ None
      unfolding scene
      exists =
          let ids = created-each spends in
          no_old_id (is_in_chain (ledger_of chain)) [] 0 (created_by_each (all_acts spends))
          (fresh-from [] 0 (together (created_by_each (all_acts spends))) (ap (repeat_behind [] 0) ids ∙ once))
          (ap (list_any (is_in_chain (ledger_of chain))) ids ∙ any_there (is_in_chain (ledger_of chain)) (first_judged.created_ids spends) new)

      -- The rules 11 and 12 are asked, and all others hold.
      pub judged-payment : judged (record { terms = terms; ledger = ledger_of chain; list = map as_facts spends; attested = attested })
          ≡ unless_spent (spent_coin chain spends) (unless_broken rules.UnknownCoin (unknown_coin chain spends) (Fine (first_judged.cost_of spends) (first_judged.fee_of spends)))
      unfolding scene
      judged-payment =
          (λ j. unless_broken rules.UnknownCoin (unknown j) (unless_broken rules.SpentInChain (spent j)
          (unless_broken rules.WrongBirth (birth j) (unless_broken rules.TooEarly (early j) (unless_broken rules.TooLate (late j)
          (unless_broken rules.UnmadeAnnouncement (unmade j) (unless_broken rules.AbsentSpend (absent j) (unless_broken rules.NotEphemeral (ephemeral j)
          (unless_broken rules.UnevenMessage (uneven j) (unless_broken rules.CreatesTooMuch (too-much j) (unless_broken rules.LacksReservedFee (fee-kept j)
          (unless_broken rules.NotAttested (unsigned j) (unless_broken rules.CoinExists (exists j)
          (Fine (same-cost terms (ledger_of chain).peak spends j) (same-fee spends j)))))))))))))))
          ∙ order (unknown_coin chain spends) (spent_coin chain spends) (first_judged.cost_of spends) (first_judged.fee_of spends)
        where
          order : (o s : Option ℕ) (cost fee : ℕ) → unless_broken rules.UnknownCoin o (unless_broken rules.SpentInChain s (Fine cost fee)) ≡ unless_spent s (unless_broken rules.UnknownCoin o (Fine cost fee))
          order None s cost fee = refl
          order (Some place) s cost fee = refl

-- ---- rule 9, spend by spend

abbrev pub OnceEach : List Spend → Type 0
OnceEach [] = Unit {0}
OnceEach (spend ∷ spends) = (same_output (as_acts spend) ≡ None) × OnceEach spends

pub once-each : (a : Hash32 → Bool) (spends : List Spend) → Fresh a (first_judged.created_ids spends) → OnceEach spends
once-each a [] f = tt
once-each a (spend ∷ spends) f =
    let ids = map coin_id (coins_made_by spend) in
    let all : Fresh a (ids ++ first_judged.created_ids spends) = subst_list a (map-append coin_id (coins_made_by spend) (first_judged.created_coins spends)) f in (
      no_same_output (coin_id spend.coin) a [] 0 (facts_or_none spend).conditions (fresh-front a ids (first_judged.created_ids spends) all) (λ hash amount h. cc),
      once-each (λ id. is_among ids id || a id) spends (fresh-back a ids (first_judged.created_ids spends) all),
    )
  where
    subst_list : (a : Hash32 → Bool) {xs ys : List Hash32} → xs ≡ ys → Fresh a xs → Fresh a ys
    subst_list a e f = subst (Fresh a) e f
