-- The coins, the cost and the fee of a Fine list.
use Rattle.std.proofs.Common.{◌≡◌, ℕ, suc, ◌+◌, ◌*◌, ◌-◌, ◌^◌, ◌<◌, ◌≤◌, ◌&&◌, ◌||◌, not, Bool, true, false, cond, nat_lt, Option, Some, None, Result, Ok, Err, List, [], ◌∷◌, ◌++◌, map, length, refl, ap, sym, ◌∙◌, subst, arith}
use Rattle.std.specs.Prelude.{is_some, is_none, position, if◌then◌else◌}
use Rattle.std.specs.List.{AllByRecursion, IsDistinct, list_any, list_all, prefix_len, sum_by}
use Rattle.std.proofs.lemmas.Bool.{or_parts, or_left, ltb-false, and_from}
use Rattle.std.proofs.lemmas.List.{map-append}
use Rattle.std.proofs.lemmas.List.Folds.{list_all-append, list_any-append}
use Rattle.std.proofs.lemmas.List.Sums.{sum_by-cons}
use Rattle.std.proofs.lemmas.Slice.Eq.{bytes_eq-Decides}
use Rattle.clvm_spec.specs.Hashing.{tree_hash}
use Rattle.clvm_spec.specs.Spelled.{spelled_tree}
use Rattle.coin_facts.specs.declared.hash32.Hash32.{Hash32}
use Rattle.coin_facts.specs.CoinId.{coin_id}
use Rattle.coin_facts.specs.Steps.{when}
use Rattle.coin_facts.specs.IdLists.{is_same_id, is_among, repeat_behind}
use Rattle.block_spec.specs.declared.spend.Spend.{Spend}
use Rattle.block_spec.specs.declared.attested.Signed.{Signed}
use Rattle.block_spec.specs.Added.{added_bytes, generator_bytes}
use Rattle.block_spec.proofs.AddedLaws.{adds_up}
use Rattle.chain_spec.specs.declared.chain.Record.{Record}
use Rattle.chain_spec.specs.declared.chain.Peak.{Peak}
use Rattle.chain_spec.specs.Chain.{Ledger, look_up, is_in_chain}
use Rattle.chain_spec.specs.Soundness.{is_unspent}
use Rattle.chain_spec.proofs.DistinctLaws.{all-append, apart-first, apart-rest, distinct-append}
use Rattle.cond_spec.specs.Acts.{Acts, of_spend, of_list, coin_made, spent_ids, created_ids, spent_amounts, created_amounts}
use Rattle.judge_spec.specs.declared.rule.Rule.TheVariants.{SpentTwice}
use Rattle.judge_spec.specs.Facts.{Facts, acts_of, Breach, OtherPuzzle, of_run, run_of, has_its_puzzle, facts_of}
use Rattle.judge_spec.specs.Checks.{Terms, id_of, is_unknown, is_spent, is_spent_in_chain, has_old_id, old_id_from, created_by_each}
use Rattle.judge_spec.specs.Judgement.{Verdict, Fine, charged, cost_of, fee_of, judged, within_limit, if_facts, with_facts, spent_twice, spends_in, judgement}
use Rattle.judge_spec.specs.JudgeLaws.{AreFound, scene_of}
use Rattle.judge_spec.specs.FineLaws.{is_held, FineIsSpendable, FineCostsSomething, FineFeeFits, FineHasFacts, IsOwnPuzzle, FineHasItsPuzzles}
use Rattle.judge_spec.proofs.FactLaws.{facts-decide}
use Rattle.judge_spec.proofs.FineLaws.{unbroken, within-one, fine-is-kept}
use Rattle.judge_spec.proofs.AgreementLaws.{found-spend}

-- ---- where nothing is found

none-before : {A : Type 0} (p : A → Bool) (xs : List A) → length xs ≤ prefix_len (λ x. not (p x)) xs → AllByRecursion (λ x. p x ≡ false) xs
none-before p [] h = tt
none-before p (x ∷ xs) h = by_test (p x) refl (none-before p xs) h
  where
    by_test : (b : Bool) → p x ≡ b → (length xs ≤ prefix_len (λ y. not (p y)) xs → AllByRecursion (λ y. p y ≡ false) xs)
        → length (x ∷ xs) ≤ cond (not b) (1 + prefix_len (λ y. not (p y)) xs) 0 → AllByRecursion (λ y. p y ≡ false) (x ∷ xs)
    by_test true is more h = absurd (omega arith)
    by_test false is more h = (is, more (omega arith))

unplaced : (b : Bool) (n : ℕ) → cond b (Some n) None ≡ None → b ≡ false
unplaced true n e = cc
unplaced false n e = refl

pub none-at : {A : Type 0} (p : A → Bool) (xs : List A) → position p xs ≡ None → AllByRecursion (λ x. p x ≡ false) xs
none-at p xs e =
    let first = prefix_len (λ x. not (p x)) xs in
    none-before p xs (ltb-false first (length xs) (unplaced (nat_lt first (length xs)) first e))

pub neither : (b : Bool) (place : ℕ) (rest : Option ℕ) → (if b then Some place else rest) ≡ None → (b ≡ false) × (rest ≡ None)
neither true place rest e = cc
neither false place rest e = (refl, e)

none-of : (found : Option ℕ) → is_some found ≡ false → found ≡ None
none-of None e = refl
none-of (Some place) e = cc

-- ---- ids that aren't repeated

unrepeated : (earlier : List Hash32) (place : ℕ) (ids : List Hash32) → repeat_behind earlier place ids ≡ None → AllByRecursion (λ id. is_among earlier id ≡ false) ids × IsDistinct is_same_id ids
unfolding IsDistinct
unrepeated earlier place [] e = (tt, tt)
unrepeated earlier place (id ∷ ids) e =
    let here = neither (is_among earlier id) place (repeat_behind (id ∷ earlier) (suc place) ids) e in
    let more = unrepeated (id ∷ earlier) (suc place) ids here.1 in
    ((here.0, apart-rest id earlier ids more.0), (apart-first id earlier ids more.0, more.1))

none-there : (is_there : Hash32 → Bool) (ids : List Hash32) → list_any is_there ids ≡ false → list_all (λ id. not (is_there id)) ids ≡ true
none-there is_there [] e = refl
none-there is_there (id ∷ ids) e =
    let parts = or_parts (is_there id) (list_any is_there ids) e in
    (λ j. not (parts.0 j) && list_all (λ id. not (is_there id)) ids) ∙ none-there is_there ids parts.1

-- ids that are apart from earlier ones and from each other, and aren't there
record NewIds (is_there : Hash32 → Bool) (earlier ids : List Hash32) : Type 0 where
  apart : AllByRecursion (λ id. is_among earlier id ≡ false) ids
  distinct : IsDistinct is_same_id ids
  new : list_all (λ id. not (is_there id)) ids ≡ true

apart-parts : (earlier ids others : List Hash32) → AllByRecursion (λ id. is_among (earlier ++ ids) id ≡ false) others
    → AllByRecursion (λ id. is_among earlier id ≡ false) others × AllByRecursion (λ id. is_among ids id ≡ false) others
apart-parts earlier ids [] all = (tt, tt)
apart-parts earlier ids (id ∷ others) all =
    let here = or_parts (is_among earlier id) (is_among ids id) (sym (list_any-append (λ other. is_same_id other id) earlier ids) ∙ all.0) in
    let more = apart-parts earlier ids others all.1 in
    ((here.0, more.0), (here.1, more.1))

no-id : (is_there : Hash32 → Bool) (earlier : List Hash32) → NewIds is_there earlier []
unfolding IsDistinct
no-id is_there earlier = record { apart = tt; distinct = tt; new = refl }

new-ids : (is_there : Hash32 → Bool) (earlier : List Hash32) (place : ℕ) (list : List Acts) → old_id_from is_there earlier place (created_by_each list) ≡ None → NewIds is_there earlier (created_ids list)
new-ids is_there earlier place [] e = no-id is_there earlier
new-ids is_there earlier place (acts ∷ list) e =
    let coins = of_spend coin_made acts in
    let ids = map coin_id coins in
    let others = created_ids list in
    let here = neither (has_old_id is_there earlier ids) place (old_id_from is_there (earlier ++ ids) (suc place) (created_by_each list)) e in
    let parts = or_parts (list_any is_there ids) (is_some (repeat_behind earlier 0 ids)) here.0 in
    let once = unrepeated earlier 0 ids (none-of (repeat_behind earlier 0 ids) parts.1) in
    let more = new-ids is_there (earlier ++ ids) (suc place) list here.1 in
    let away = apart-parts earlier ids others more.apart in
    let is_new : Hash32 → Bool = λ id. not (is_there id) in
    subst (NewIds is_there earlier) (sym (map-append coin_id coins (of_list coin_made list))) (record {
      apart = all-append (λ id. is_among earlier id ≡ false) ids others once.0 away.0;
      distinct = distinct-append ids others once.1 more.distinct away.1;
      new = list_all-append is_new ids others ∙ and_from (list_all is_new ids) (list_all is_new others) (none-there is_there ids parts.0) more.new;
    })

-- ---- coins that can be spent

unspent-from : (spent : Option ℕ) → is_some spent ≡ false → is_none spent ≡ true
unspent-from None e = refl
unspent-from (Some height) e = cc

held-one : (found : Option Record) (created : Bool) → not (is_some found || created) ≡ false → is_spent found ≡ false → (is_unspent found || created) ≡ true
held-one None true known kept = refl
held-one None false known kept = cc
held-one (Some found) created known kept = or_left (is_unspent (Some found)) created (unspent-from found.spent kept)

all-held : (ledger : Ledger) (whole : List Acts) (list : List Facts)
    → AllByRecursion (λ facts. not (is_in_chain ledger (id_of facts) || is_among (created_ids whole) (id_of facts)) ≡ false) list
    → AllByRecursion (λ facts. is_spent (look_up ledger (id_of facts)) ≡ false) list
    → list_all (is_held ledger whole) (spent_ids (map acts_of list)) ≡ true
all-held ledger whole [] known kept = refl
all-held ledger whole (facts ∷ list) known kept =
    and_from (is_held ledger whole (id_of facts)) (list_all (is_held ledger whole) (spent_ids (map acts_of list)))
    (held-one (look_up ledger (id_of facts)) (is_among (created_ids whole) (id_of facts)) known.0 kept.0)
    (all-held ledger whole list known.1 kept.1)

-- the ids of spends are those of their facts
ids-of-spends : (list : List Facts) → map (λ spend. coin_id spend.coin) (spends_in list) ≡ spent_ids (map acts_of list)
ids-of-spends [] = refl
ids-of-spends (facts ∷ list) = ap (λ ids. id_of facts ∷ ids) (ids-of-spends list)

not-more : (spent created place : ℕ) → when (nat_lt spent created) place ≡ None → created ≤ spent
not-more spent created place e = ltb-false spent created (unplaced (nat_lt spent created) place e)

pub fine-is-spendable : FineIsSpendable
fine-is-spendable terms ledger list attested cost fee e =
    let scene = scene_of terms ledger list attested in
    let acts = map acts_of list in
    let says = fine-is-kept terms ledger list attested cost fee e in
    let kept = says.1 in
    let known = none-at (is_unknown scene) list kept.0 in
    let unspent = none-at (is_spent_in_chain scene) list kept.1.0 in
    let made = new-ids (is_in_chain ledger) [] 0 acts kept.1.1.1.1.1.1.1.1.1.1.1.1.0 in
    record {
      spent_once = subst (IsDistinct is_same_id) (ids-of-spends list) (unrepeated [] 0 (map (λ spend. coin_id spend.coin) (spends_in list)) says.0).1;
      held = all-held ledger acts list known unspent;
      created_once = made.distinct;
      new = made.new;
      covered = not-more (spent_amounts acts) (created_amounts acts) (length acts) kept.1.1.1.1.1.1.1.1.1.0;
    }

-- ---- cost and fee

cost-in : (a b c d : ℕ) → Fine a b ≡ Fine c d → (a ≡ c) × (b ≡ d)
cost-in a b c d e = (cc, cc)

pub fine-costs-something : FineCostsSomething
fine-costs-something terms ledger list attested cost fee e =
    let says = fine-is-kept terms ledger list attested cost fee e in
    let is = (cost-in (cost_of terms ledger.peak list) (fee_of list) cost fee says.2).0 in
    at-least (generator_bytes (spends_in list)) (sum_by (charged terms ledger.peak) list) (sum_by added_bytes (spends_in list)) cost is (adds_up (spends_in list))
  where
    at-least : (bytes charges added cost : ℕ) → 12_000 * bytes + charges ≡ cost → bytes ≡ 5 + added → 12_000 * 5 ≤ cost
    at-least bytes charges added cost is e = omega arith

amounts-below : (list : List Facts) → AllByRecursion (λ facts. facts.spend.coin.amount < 2 ^ 64) list → spent_amounts (map acts_of list) ≤ length list * (2 ^ 64 - 1)
amounts-below [] all = omega arith
amounts-below (facts ∷ list) all =
    let others = amounts-below list all.1 in
    let here = all.0 in
    let sum = sum_by-cons (λ (acts : Acts). acts.coin.amount) (acts_of facts) (map acts_of list) in
    omega (arith, sum, others, here)

pub fine-fee-fits : FineFeeFits
fine-fee-fits terms ledger list attested cost fee e few small =
    let says = fine-is-kept terms ledger list attested cost fee e in
    let is = (cost-in (cost_of terms ledger.peak list) (fee_of list) cost fee says.2).1 in
    below (spent_amounts (map acts_of list)) (created_amounts (map acts_of list)) (length list) fee is few (amounts-below list small)
  where
    below : (spent created n fee : ℕ) → spent - created ≡ fee → n < 2 ^ 32 → spent ≤ n * (2 ^ 64 - 1) → fee < 2 ^ 96
    below spent created n fee is few most = omega arith

-- ---- the facts of a Fine list

record Listed (limit : ℕ) (spends : List Spend) : Type 0 where
  list : List Facts
  found : AreFound limit list
  these : spends_in list ≡ spends

listed-behind : (limit : ℕ) (spend : Spend) (spends : List Spend) (facts : Facts) → facts_of limit spend ≡ Ok facts → Listed limit spends → Listed limit (spend ∷ spends)
listed-behind limit spend spends facts is more =
    let kept = found-spend limit spend facts is in
    record {
      list = facts ∷ more.list;
      found = (ap (facts_of limit) (sym kept) ∙ is, more.found);
      these = λ j. sym kept j ∷ more.these j;
    }

listed-one : (terms : Terms) (peak : Peak) (earlier : List Facts) (spend : Spend) (spends : List Spend) (found : Result Facts Breach) (rest : Facts → Verdict) (cost fee : ℕ) → facts_of terms.limit spend ≡ found
    → ((facts : Facts) → rest facts ≡ Fine cost fee → Listed terms.limit spends)
    → if_facts (length earlier) found (λ facts. within_limit terms peak earlier facts (rest facts)) ≡ Fine cost fee → Listed terms.limit (spend ∷ spends)
listed-one terms peak earlier spend spends (Ok facts) rest cost fee is more e =
    listed-behind terms.limit spend spends facts is
    (more facts (within-one (nat_lt terms.limit (cost_of terms peak (earlier ++ facts ∷ []))) (length earlier) (rest facts) cost fee e).1)
listed-one terms peak earlier spend spends (Err breach) rest cost fee is more e = cc

listed : (terms : Terms) (peak : Peak) (go : List Facts → Verdict) (earlier : List Facts) (spends : List Spend) (cost fee : ℕ) → with_facts terms peak earlier spends go ≡ Fine cost fee → Listed terms.limit spends
listed terms peak go earlier [] cost fee e = record { list = []; found = tt; these = refl }
listed terms peak go earlier (spend ∷ spends) cost fee e =
    listed-one terms peak earlier spend spends (facts_of terms.limit spend) (λ facts. with_facts terms peak (earlier ++ facts ∷ []) spends go) cost fee refl
    (λ facts more. listed terms peak go (earlier ++ facts ∷ []) spends cost fee more) e

found-list : (terms : Terms) (ledger : Ledger) (spends : List Spend) (attested : List Signed) (cost fee : ℕ) → judgement terms ledger spends attested ≡ Fine cost fee → Listed terms.limit spends
unfolding judgement
found-list terms ledger spends attested cost fee e =
    let go : List Facts → Verdict = λ list. judged (scene_of terms ledger list attested) in
    listed terms ledger.peak go [] spends cost fee (unbroken SpentTwice (spent_twice spends) (with_facts terms ledger.peak [] spends go) cost fee e).1

pub fine-has-facts : FineHasFacts
fine-has-facts terms ledger spends attested cost fee e =
    let all = found-list terms ledger spends attested cost fee e in
    record {
      list = all.list;
      found = all.found;
      these = all.these;
      fine =
          sym (facts-decide terms terms.limit ledger all.list attested (omega arith) all.found)
          ∙ ap (λ these. judgement terms ledger these attested) all.these ∙ e;
    }

-- ---- puzzles

own-by : (fits : Bool) (limit : ℕ) (spend : Spend) (facts : Facts) → (if fits then of_run limit spend (run_of limit spend) else Err OtherPuzzle) ≡ Ok facts → fits ≡ true
own-by true limit spend facts e = refl
own-by false limit spend facts e = cc

own-puzzle : (limit : ℕ) (spend : Spend) (facts : Facts) → facts_of limit spend ≡ Ok facts → IsOwnPuzzle spend
unfolding facts_of
own-puzzle limit spend facts e =
    (bytes_eq-Decides (tree_hash (spelled_tree spend.puzzle)) spend.coin.puzzle_hash.bytes).0 (own-by (has_its_puzzle spend) limit spend facts e)

own-puzzles : (limit : ℕ) (list : List Facts) → AreFound limit list → AllByRecursion IsOwnPuzzle (spends_in list)
own-puzzles limit [] found = tt
own-puzzles limit (facts ∷ list) found = (own-puzzle limit facts.spend facts found.0, own-puzzles limit list found.1)

pub fine-has-its-puzzles : FineHasItsPuzzles
fine-has-its-puzzles terms ledger spends attested cost fee e =
    let all = found-list terms ledger spends attested cost fee e in
    subst (AllByRecursion IsOwnPuzzle) all.these (own-puzzles terms.limit all.list all.found)
