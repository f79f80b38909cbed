-- One verdict on ledgers that agree on a list of spends.
use Rattle.std.proofs.Common.{◌≡◌, ℕ, suc, ◌+◌, ◌&&◌, ◌||◌, not, Bool, true, false, cond, nat_lt, Some, None, Result, Ok, Err, List, [], ◌∷◌, ◌++◌, map, length, refl, ap, sym, ◌∙◌, subst, append_assoc}
use Rattle.std.specs.Prelude.{is_some, position, if◌then◌else◌}
use Rattle.std.specs.List.{AllByRecursion, list_any, list_all, prefix_len}
use Rattle.std.proofs.lemmas.List.{append-nil, map-append}
use Rattle.clvm_spec.specs.Outcomes.{Outcome, Done, Failed, Spent, Wide}
use Rattle.clvm_spec.specs.Evaluation.{run_cost, fuel_of}
use Rattle.coin_facts.specs.declared.hash32.Hash32.{Hash32}
use Rattle.coin_facts.specs.declared.coin.Coin.{Coin}
use Rattle.coin_facts.specs.CoinId.{coin_id}
use Rattle.coin_facts.specs.IdLists.{repeat_behind}
use Rattle.block_spec.specs.declared.spend.Spend.{Spend}
use Rattle.block_spec.specs.declared.attested.Signed.{Signed}
use Rattle.chain_spec.specs.declared.chain.Peak.{Peak}
use Rattle.chain_spec.specs.Chain.{Ledger, look_up, is_in_chain}
use Rattle.cond_spec.specs.declared.condition.Condition.{Condition}
use Rattle.cond_spec.specs.Acts.{Acts, of_spend, of_list, coin_made, created_ids, spent_ids}
use Rattle.cond_spec.specs.Conditions.{Listing, Lists, MalformedAt, UnknownAt, conditions_of, cost_of_conditions}
use Rattle.cond_spec.specs.Locks.{Lock, to_reach, to_precede, looks_at_record}
use Rattle.cond_spec.specs.Signing.{to_sign}
use Rattle.cond_spec.specs.ActRules.{same_output, wrong_own_fact, unmade_announcement, absent_spend, not_ephemeral, uneven_message, creates_too_much, lacks_reserved_fee}
use Rattle.judge_spec.specs.declared.rule.Rule.TheVariants as rules
use Rattle.judge_spec.specs.Facts.{Facts, acts_of, Breach, SameOutput, OwnFact, OtherPuzzle, unless_at, of_listing, of_run, run_of, has_its_puzzle, facts_of}
use Rattle.judge_spec.specs.Locked.{is_reached, is_ahead}
use Rattle.judge_spec.specs.Checks.{Terms, Scene, id_of, first_spend, is_created, is_unknown, is_spent, is_spent_in_chain, has_other_birth, has_wrong_birth, is_too_early, is_too_late, is_attested, is_not_attested, old_id_from, created_by_each, coin_exists}
use Rattle.judge_spec.specs.Judgement.{Verdict, Fine, unless_broken, cost_of, fee_of, judged, within_limit, if_facts, with_facts, with_costs, spent_twice, spends_in, judgement, judgement_of_facts}
use Rattle.judge_spec.specs.JudgeLaws.{AreFound, scene_of}
use Rattle.judge_spec.specs.Agreement.{AgreeOn, LooksAtItsCoins, SpendsLookAtTheirCoins}
use Rattle.judge_spec.proofs.FactLaws.{unless-cost}

-- ---- lists

same-prefix : {A : Type 0} (p q : A → Bool) (xs : List A) → AllByRecursion (λ x. p x ≡ q x) xs → prefix_len (λ x. not (p x)) xs ≡ prefix_len (λ x. not (q x)) xs
same-prefix p q [] same = refl
same-prefix p q (x ∷ xs) same = λ j. cond (not (same.0 j)) (1 + same-prefix p q xs same.1 j) 0

-- the first place that passes
pub same-position : {A : Type 0} (p q : A → Bool) (xs : List A) → AllByRecursion (λ x. p x ≡ q x) xs → position p xs ≡ position q xs
same-position p q xs same = ap (λ n. cond (nat_lt n (length xs)) (Some n) None) (same-prefix p q xs same)

same-any : {A : Type 0} (p q : A → Bool) (xs : List A) → AllByRecursion (λ x. p x ≡ q x) xs → list_any p xs ≡ list_any q xs
same-any p q [] same = refl
same-any p q (x ∷ xs) same = λ j. same.0 j || same-any p q xs same.1 j

same-all : {A : Type 0} (p q : A → Bool) (xs : List A) → AllByRecursion (λ x. p x ≡ q x) xs → list_all p xs ≡ list_all q xs
same-all p q [] same = refl
same-all p q (x ∷ xs) same = λ j. same.0 j && same-all p q xs same.1 j

both_parts : {A : Type 0} (P : A → Type 0) (xs ys : List A) → AllByRecursion P (xs ++ ys) → AllByRecursion P xs × AllByRecursion P ys
both_parts P [] ys all = (tt, all)
both_parts P (x ∷ xs) ys all = let others = both_parts P xs ys all.1 in ((all.0, others.0), others.1)

-- ---- the rules

module _ (ledger other : Ledger) where
  abbrev SameRecord : Hash32 → Type 0
  SameRecord id = look_up ledger id ≡ look_up other id

  abbrev SameThere : Hash32 → Type 0
  SameThere id = is_in_chain ledger id ≡ is_in_chain other id

  at-spent : (p q : Facts → Bool) → ((facts : Facts) → SameRecord (id_of facts) → p facts ≡ q facts) → (list : List Facts) → AllByRecursion SameRecord (spent_ids (map acts_of list)) → AllByRecursion (λ facts. p facts ≡ q facts) list
  at-spent p q same [] all = tt
  at-spent p q same (facts ∷ list) all = (same facts all.0, at-spent p q same list all.1)

  at-locks : (p q : Lock → Bool) (given : Coin → Condition → List Lock) (list : List Facts) → AllByRecursion (λ lock. p lock ≡ q lock) (of_list given (map acts_of list))
      → AllByRecursion (λ facts. not (list_all p (of_spend given (acts_of facts))) ≡ not (list_all q (of_spend given (acts_of facts)))) list
  at-locks p q given [] all = tt
  at-locks p q given (facts ∷ list) all =
      let parts = both_parts (λ lock. p lock ≡ q lock) (of_spend given (acts_of facts)) (of_list given (map acts_of list)) all in
      (ap not (same-all p q (of_spend given (acts_of facts)) parts.0), at-locks p q given list parts.1)

  same-old : (earlier : List Hash32) (place : ℕ) (list : List Acts) → AllByRecursion SameThere (created_ids list)
      → old_id_from (is_in_chain ledger) earlier place (created_by_each list) ≡ old_id_from (is_in_chain other) earlier place (created_by_each list)
  same-old earlier place [] all = refl
  same-old earlier place (acts ∷ list) all =
      let coins = of_spend coin_made acts in
      let ids = map coin_id coins in
      let parts = both_parts SameThere ids (created_ids list) (subst (AllByRecursion SameThere) (map-append coin_id coins (of_list coin_made list)) all) in
      let here = same-any (is_in_chain ledger) (is_in_chain other) ids parts.0 in
      let behind = same-old (earlier ++ ids) (suc place) list parts.1 in
      λ j. if (here j || is_some (repeat_behind earlier 0 ids)) then Some place else behind j

  module _ (terms : Terms) (attested : List Signed) (list : List Facts) (agree : AgreeOn ledger other (map acts_of list)) where
    here : Scene
    here = scene_of terms ledger list attested

    there : Scene
    there = scene_of terms other list attested

    unknown-same : first_spend is_unknown here ≡ first_spend is_unknown there
    unfolding here there
    unknown-same =
        same-position (is_unknown here) (is_unknown there) list
        (at-spent (is_unknown here) (is_unknown there) (λ facts e. ap (λ found. not (is_some found || is_created here facts)) e) list agree.spent)

    spent-same : first_spend is_spent_in_chain here ≡ first_spend is_spent_in_chain there
    unfolding here there
    spent-same =
        same-position (is_spent_in_chain here) (is_spent_in_chain there) list
        (at-spent (is_spent_in_chain here) (is_spent_in_chain there) (λ facts e. ap is_spent e) list agree.spent)

    birth-same : first_spend has_wrong_birth here ≡ first_spend has_wrong_birth there
    unfolding here there
    birth-same =
        same-position (has_wrong_birth here) (has_wrong_birth there) list
        (at-spent (has_wrong_birth here) (has_wrong_birth there)
        (λ facts e. ap (λ found. has_other_birth found facts.conditions || (is_created here facts && list_any looks_at_record facts.conditions)) e)
        list agree.spent)

    early-same : first_spend is_too_early here ≡ first_spend is_too_early there
    unfolding here there
    early-same =
        same-position (is_too_early here) (is_too_early there) list (at-locks (is_reached ledger) (is_reached other) to_reach list agree.reached)

    late-same : first_spend is_too_late here ≡ first_spend is_too_late there
    unfolding here there
    late-same =
        same-position (is_too_late here) (is_too_late there) list (at-locks (is_ahead ledger) (is_ahead other) to_precede list agree.ahead)

    signed-same : first_spend is_not_attested here ≡ first_spend is_not_attested there
    unfolding here there
    signed-same = λ j. position (λ facts. not (list_all (is_attested attested) (of_spend (to_sign (agree.genesis j)) (acts_of facts)))) list

    exists-same : coin_exists here ≡ coin_exists there
    unfolding here there
    exists-same = same-old [] 0 (map acts_of list) agree.created

    pub judged-same : judged (scene_of terms ledger list attested) ≡ judged (scene_of terms other list attested)
    unfolding here there
    judged-same = λ j.
        let acts = map acts_of list in
        unless_broken rules.UnknownCoin (unknown-same j) (unless_broken rules.SpentInChain (spent-same j)
        (unless_broken rules.WrongBirth (birth-same j) (unless_broken rules.TooEarly (early-same j)
        (unless_broken rules.TooLate (late-same j) (unless_broken rules.UnmadeAnnouncement (unmade_announcement acts)
        (unless_broken rules.AbsentSpend (absent_spend acts) (unless_broken rules.NotEphemeral (not_ephemeral acts)
        (unless_broken rules.UnevenMessage (uneven_message acts) (unless_broken rules.CreatesTooMuch (creates_too_much acts)
        (unless_broken rules.LacksReservedFee (lacks_reserved_fee acts) (unless_broken rules.NotAttested (signed-same j)
        (unless_broken rules.CoinExists (exists-same j) (Fine (cost_of terms ledger.peak list) (fee_of list))))))))))))))

-- ---- verdicts

same-costs : (terms : Terms) (peak other : Peak) (earlier list : List Facts) (verdict same : Verdict) → verdict ≡ same → with_costs terms peak earlier list verdict ≡ with_costs terms other earlier list same
same-costs terms peak other earlier [] verdict same e = e
same-costs terms peak other earlier (facts ∷ list) verdict same e =
    ap (within_limit terms peak earlier facts) (same-costs terms peak other (earlier ++ facts ∷ []) list verdict same e)

pub looks-at-its-coins : LooksAtItsCoins
unfolding judgement_of_facts
looks-at-its-coins terms ledger other list attested agree =
    ap (unless_broken rules.SpentTwice (spent_twice (spends_in list)))
    (same-costs terms ledger.peak other.peak [] list (judged (scene_of terms ledger list attested)) (judged (scene_of terms other list attested))
    (judged-same ledger other terms attested list agree))

-- ---- verdicts on spends

spend_in : Spend → Result Facts Breach → Spend
spend_in spend (Ok facts) = facts.spend
spend_in spend (Err breach) = spend

listed-spend : (spend : Spend) (run : ℕ) (listing : Listing) (facts : Facts) → of_listing spend run listing ≡ Ok facts → spend ≡ facts.spend
unfolding spend_in
listed-spend spend run (Lists conditions) facts e =
    let made : Facts = record { spend = spend; cost = run + cost_of_conditions conditions; conditions = conditions } in
    let inner = unless-cost SameOutput (same_output (acts_of made)) (unless_at OwnFact (wrong_own_fact (acts_of made)) (Ok made)) facts e in
    ap (spend_in spend) (unless-cost OwnFact (wrong_own_fact (acts_of made)) (Ok made) facts inner)
listed-spend spend run (MalformedAt place) facts e = cc
listed-spend spend run (UnknownAt place) facts e = cc

found-by : (limit : ℕ) (spend : Spend) (facts : Facts) (fits : Bool) (o : Outcome) → (if fits then of_run limit spend o else Err OtherPuzzle) ≡ Ok facts → spend ≡ facts.spend
found-by limit spend facts true (Done value left) e = listed-spend spend (run_cost (fuel_of limit) left) (conditions_of value) facts e
found-by limit spend facts true (Failed why form) e = cc
found-by limit spend facts true (Spent which) e = cc
found-by limit spend facts true Wide e = cc
found-by limit spend facts false o e = cc

-- Facts are those of their spend.
pub found-spend : (limit : ℕ) (spend : Spend) (facts : Facts) → facts_of limit spend ≡ Ok facts → spend ≡ facts.spend
unfolding facts_of
found-spend limit spend facts e = found-by limit spend facts (has_its_puzzle spend) (run_of limit spend) e

if-found : (terms : Terms) (peak other : Peak) (earlier : List Facts) (spend : Spend) (found : Result Facts Breach) (step same : Facts → Verdict) → facts_of terms.limit spend ≡ found
    → ((facts : Facts) → facts_of terms.limit spend ≡ Ok facts → step facts ≡ same facts) → if_facts (length earlier) found step ≡ if_facts (length earlier) found same
if-found terms peak other earlier spend (Ok facts) step same is e = e facts is
if-found terms peak other earlier spend (Err breach) step same is e = refl

same-facts : (terms : Terms) (peak other : Peak) (go same : List Facts → Verdict) (earlier : List Facts) (spends : List Spend)
    → ((list : List Facts) → AreFound terms.limit list → spends_in list ≡ spends → go (earlier ++ list) ≡ same (earlier ++ list))
    → with_facts terms peak earlier spends go ≡ with_facts terms other earlier spends same
same-facts terms peak other go same earlier [] e = ap go (sym (append-nil earlier)) ∙ e [] tt refl ∙ ap same (append-nil earlier)
same-facts terms peak other go same earlier (spend ∷ spends) e =
    if-found terms peak other earlier spend (facts_of terms.limit spend)
    (λ facts. within_limit terms peak earlier facts (with_facts terms peak (earlier ++ facts ∷ []) spends go))
    (λ facts. within_limit terms other earlier facts (with_facts terms other (earlier ++ facts ∷ []) spends same)) refl
    (λ facts is. ap (within_limit terms peak earlier facts) (same-facts terms peak other go same (earlier ++ facts ∷ []) spends (λ list are these.
    let kept = found-spend terms.limit spend facts is in
    ap go (append_assoc earlier (facts ∷ []) list)
    ∙ e (facts ∷ list) (ap (facts_of terms.limit) (sym kept) ∙ is, are) (λ j. sym kept j ∷ these j)
    ∙ ap same (sym (append_assoc earlier (facts ∷ []) list)))))

pub spends-look-at-their-coins : SpendsLookAtTheirCoins
unfolding judgement
spends-look-at-their-coins terms ledger other spends attested agree =
    ap (unless_broken rules.SpentTwice (spent_twice spends))
    (same-facts terms ledger.peak other.peak (λ list. judged (scene_of terms ledger list attested)) (λ list. judged (scene_of terms other list attested)) [] spends
    (λ list are these. judged-same ledger other terms attested list (agree list are these)))
