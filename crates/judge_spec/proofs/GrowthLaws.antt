-- What a list that breaks no rule can break when it grows.
use Rattle.std.proofs.Common.{◌≡◌, ℕ, suc, ◌+◌, ◌&&◌, ◌||◌, not, Bool, true, false, cond, nat_lt, Option, Some, None, List, [], ◌∷◌, ◌++◌, map, length, refl, ap, sym, ◌∙◌, append_assoc, arith}
use Rattle.std.specs.Prelude.{position, reverse, count_by}
use Rattle.std.specs.List.{AllByRecursion, list_any, list_all, prefix_len, sum_by}
use Rattle.std.specs.Str.{bytes_eq}
use Rattle.std.proofs.lemmas.Bool.{or_parts, cond-false}
use Rattle.std.proofs.lemmas.Bool.Decides.{nat_tests}
use Rattle.std.proofs.lemmas.List.{map-append, reverse-append}
use Rattle.std.proofs.lemmas.List.Concat.{flat_map-append}
use Rattle.std.proofs.lemmas.List.Folds.{list_any-append}
use Rattle.std.proofs.lemmas.List.Sums.{sum_by-append}
use Rattle.coin_facts.specs.declared.hash32.Hash32.{Hash32}
use Rattle.coin_facts.specs.declared.coin.Coin.{Coin}
use Rattle.coin_facts.specs.CoinId.{coin_id}
use Rattle.coin_facts.specs.IdLists.{is_same_id, is_among, repeat_behind}
use Rattle.block_spec.specs.declared.spend.Spend.{Spend}
use Rattle.block_spec.specs.declared.attested.Signed.{Signed}
use Rattle.chain_spec.specs.declared.chain.Peak.{Peak}
use Rattle.chain_spec.specs.Chain.{look_up, is_in_chain}
use Rattle.cond_spec.specs.declared.condition.Condition.{Condition}
use Rattle.cond_spec.specs.declared.condition.Condition.TheVariants.{AssertCoinAnnouncement, AssertPuzzleAnnouncement, AssertConcurrentSpend, AssertConcurrentPuzzle, AssertEphemeral}
use Rattle.cond_spec.specs.Acts.{Acts, of_spend, of_list, coin_made, spent_ids, spent_puzzles, created_coins, created_ids, fee_reserved, coin_announcement, coin_announcements, puzzle_announcement, puzzle_announcements}
use Rattle.cond_spec.specs.Locks.{looks_at_record}
use Rattle.cond_spec.specs.Messages.{Message, is_same_message}
use Rattle.cond_spec.specs.Signing.{ToSign, to_sign}
use Rattle.cond_spec.specs.ActRules.{is_unmade, is_absent, is_born_before}
use Rattle.judge_spec.specs.Facts.{Facts, acts_of}
use Rattle.judge_spec.specs.Checks.{Terms, Scene, id_of, acts_in, first_spend, is_unknown, is_spent_in_chain, has_other_birth, has_wrong_birth, is_too_early, is_too_late, is_attested, is_not_attested, has_old_id, old_id_from, created_by_each}
use Rattle.judge_spec.specs.Judgement.{Verdict, Fine, cost_of, with_costs}
use Rattle.judge_spec.specs.GrowthLaws.{grown, place_behind, ids_spent, SpentTwiceGrows, CostsGrow, SpendsGrow, AsksAddedActs, ActsGrow, NewCoinsGrow, BirthsGrow, MessagesGrow, SumsGrow}
use Rattle.judge_spec.proofs.FineLaws.{within-one}
use Rattle.judge_spec.proofs.FineCoins.{none-at, neither}

-- ---- places behind

next-test : (n count : ℕ) → nat_lt (1 + n) (suc count) ≡ nat_lt n count
next-test n count = grind (arith, nat_tests)

next-place : {A : Type 0} (p : A → Bool) (x : A) (xs : List A) → p x ≡ false → position p (x ∷ xs) ≡ place_behind 1 (position p xs)
next-place p x xs fails =
    let n = prefix_len (λ y. not (p y)) xs in
    (λ j. cond (nat_lt (cond (not (fails j)) (1 + n) 0) (length (x ∷ xs))) (Some (cond (not (fails j)) (1 + n) 0)) None)
    ∙ ap (λ t. cond t (Some (1 + n)) None) (next-test n (length xs)) ∙ sym (through (nat_lt n (length xs)) n)
  where
    through : (t : Bool) (n : ℕ) → place_behind 1 (cond t (Some n) None) ≡ cond t (Some (1 + n)) None
    through true n = refl
    through false n = refl

two-behind : (count : ℕ) (place : Option ℕ) → place_behind 1 (place_behind count place) ≡ place_behind (suc count) place
two-behind count None = refl
two-behind count (Some n) = ap Some (omega arith)

none-behind : (place : Option ℕ) → place ≡ place_behind 0 place
none-behind None = refl
none-behind (Some n) = ap Some (omega arith)

grown-place : {A : Type 0} (p : A → Bool) (xs ys : List A) → AllByRecursion (λ x. p x ≡ false) xs → position p (xs ++ ys) ≡ place_behind (length xs) (position p ys)
grown-place p [] ys none = none-behind (position p ys)
grown-place p (x ∷ xs) ys none =
    next-place p x (xs ++ ys) none.0 ∙ ap (place_behind 1) (grown-place p xs ys none.1) ∙ two-behind (length xs) (position p ys)

still-none : {A : Type 0} (p q : A → Bool) (xs : List A) → ((x : A) → p x ≡ false → q x ≡ false) → AllByRecursion (λ x. p x ≡ false) xs → AllByRecursion (λ x. q x ≡ false) xs
still-none p q [] still none = tt
still-none p q (x ∷ xs) still none = (still x none.0, still-none p q xs still none.1)

still-not : {A : Type 0} (p q : A → Bool) (xs : List A) → ((x : A) → p x ≡ false → q x ≡ false) → list_any p xs ≡ false → list_any q xs ≡ false
still-not p q [] still none = refl
still-not p q (x ∷ xs) still none =
    let parts = or_parts (p x) (list_any p xs) none in
    (λ j. still x parts.0 j || list_any q xs) ∙ still-not p q xs still parts.1

-- ---- lists of two parts

of-both : {A : Type 0} (given : Coin → Condition → List A) (kept added : List Acts) → of_list given (kept ++ added) ≡ of_list given kept ++ of_list given added
of-both given kept added = flat_map-append (of_spend given) kept added

created-both : (kept added : List Acts) → created_ids (kept ++ added) ≡ created_ids kept ++ created_ids added
created-both kept added = ap (map coin_id) (of-both coin_made kept added) ∙ map-append coin_id (created_coins kept) (created_coins added)

among-both : (ids others both : List Hash32) (id : Hash32) → both ≡ ids ++ others → is_among both id ≡ (is_among ids id || is_among others id)
among-both ids others both id e = ap (λ all. is_among all id) e ∙ list_any-append (λ other. is_same_id other id) ids others

not-there : (ids others both : List Hash32) (id : Hash32) → both ≡ ids ++ others → not (is_among ids id) ≡ false → not (is_among both id) ≡ false
not-there ids others both id e fails = ap not (among-both ids others both id e) ∙ by_test (is_among ids id) (is_among others id) fails
  where
    by_test : (x y : Bool) → not x ≡ false → not (x || y) ≡ false
    by_test true y fails = refl
    by_test false y fails = cc

-- ---- rules on spends

module _ (kept : Scene) (added : List Facts) (attested : List Signed) where
  abbrev whole : Scene
  whole = grown kept added attested

  created-grown : created_ids (acts_in whole) ≡ created_ids (acts_in kept) ++ created_ids (map acts_of added)
  created-grown = ap created_ids (map-append acts_of kept.list added) ∙ created-both (acts_in kept) (map acts_of added)

  asks-added : (test : Scene → Facts → Bool) → ((facts : Facts) → test kept facts ≡ false → test whole facts ≡ false) → first_spend test kept ≡ None
      → first_spend test whole ≡ place_behind (length kept.list) (position (test whole) added)
  asks-added test still none =
      grown-place (test whole) kept.list added (still-none (test kept) (test whole) kept.list still (none-at (test kept) kept.list none))

  known-still : (facts : Facts) → is_unknown kept facts ≡ false → is_unknown whole facts ≡ false
  known-still facts fails =
      ap (λ made. not (is_in_chain kept.ledger (id_of facts) || made)) (among-both (created_ids (acts_in kept)) (created_ids (map acts_of added)) (created_ids (acts_in whole)) (id_of facts) created-grown)
      ∙ by_test (is_in_chain kept.ledger (id_of facts)) (is_among (created_ids (acts_in kept)) (id_of facts)) (is_among (created_ids (map acts_of added)) (id_of facts)) fails
    where
      by_test : (there made more : Bool) → not (there || made) ≡ false → not (there || (made || more)) ≡ false
      by_test true made more fails = refl
      by_test false true more fails = refl
      by_test false false more fails = cc

  all-attested : (pairs : List ToSign) → not (list_all (is_attested kept.attested) pairs) ≡ false → not (list_all (is_attested (kept.attested ++ attested)) pairs) ≡ false
  all-attested [] fails = refl
  all-attested (pair ∷ pairs) fails =
      ap (λ here. not (here && list_all (is_attested (kept.attested ++ attested)) pairs)) (list_any-append (λ signed. bytes_eq signed.key pair.key && bytes_eq signed.message pair.message) kept.attested attested)
      ∙ by_test (is_attested kept.attested pair) (is_attested attested pair) (list_all (is_attested kept.attested) pairs) (list_all (is_attested (kept.attested ++ attested)) pairs) fails (all-attested pairs)
    where
      by_test : (here more others all : Bool) → not (here && others) ≡ false → (not others ≡ false → not all ≡ false) → not ((here || more) && all) ≡ false
      by_test true more others all fails still = still fails
      by_test false more others all fails still = cc

  births-grow : (facts : Facts) → has_wrong_birth whole facts ≡ (has_wrong_birth kept facts || (is_among (created_ids (map acts_of added)) (id_of facts) && list_any looks_at_record facts.conditions))
  births-grow facts =
      let other = has_other_birth (look_up kept.ledger (id_of facts)) facts.conditions in
      let looks = list_any looks_at_record facts.conditions in
      ap (λ made. other || (made && looks)) (among-both (created_ids (acts_in kept)) (created_ids (map acts_of added)) (created_ids (acts_in whole)) (id_of facts) created-grown)
      ∙ regroup other (is_among (created_ids (acts_in kept)) (id_of facts)) (is_among (created_ids (map acts_of added)) (id_of facts)) looks
    where
      regroup : (a b c d : Bool) → (a || ((b || c) && d)) ≡ ((a || (b && d)) || (c && d))
      regroup true b c d = refl
      regroup false true true true = refl
      regroup false true true false = refl
      regroup false true false true = refl
      regroup false true false false = refl
      regroup false false c d = refl

pub spends-grow : SpendsGrow
spends-grow = (
  (λ kept added attested none. asks-added kept added attested is_unknown (known-still kept added attested) none),
  (λ kept added attested none. asks-added kept added attested is_spent_in_chain (λ facts fails. fails) none),
  (λ kept added attested none. asks-added kept added attested is_too_early (λ facts fails. fails) none),
  (λ kept added attested none. asks-added kept added attested is_too_late (λ facts fails. fails) none),
  (λ kept added attested none. asks-added kept added attested is_not_attested
      (λ facts fails. all-attested kept added attested (of_spend (to_sign kept.ledger.genesis) (acts_of facts)) fails) none),
)

pub grown-births : BirthsGrow
grown-births kept added attested facts = births-grow kept added attested facts

-- ---- rules on conditions

acts-added : (test : List Acts → Coin → Condition → Bool) → ((kept added : List Acts) (coin : Coin) (condition : Condition) → test kept coin condition ≡ false → test (kept ++ added) coin condition ≡ false) → AsksAddedActs test
acts-added test still kept added none =
    let here : Acts → Bool = λ acts. list_any (test kept acts.coin) acts.conditions in
    let there : Acts → Bool = λ acts. list_any (test (kept ++ added) acts.coin) acts.conditions in
    grown-place there kept added
    (still-none here there kept (λ acts fails. still-not (test kept acts.coin) (test (kept ++ added) acts.coin) acts.conditions (still kept added acts.coin) fails) (none-at here kept none))

made-still : (kept added : List Acts) (coin : Coin) (condition : Condition) → is_unmade kept condition ≡ false → is_unmade (kept ++ added) condition ≡ false
made-still kept added coin (AssertCoinAnnouncement id) fails =
    not-there (coin_announcements kept) (coin_announcements added) (coin_announcements (kept ++ added)) id (of-both coin_announcement kept added) fails
made-still kept added coin (AssertPuzzleAnnouncement id) fails =
    not-there (puzzle_announcements kept) (puzzle_announcements added) (puzzle_announcements (kept ++ added)) id (of-both puzzle_announcement kept added) fails
made-still kept added coin _ fails = refl

present-still : (kept added : List Acts) (coin : Coin) (condition : Condition) → is_absent kept condition ≡ false → is_absent (kept ++ added) condition ≡ false
present-still kept added coin (AssertConcurrentSpend id) fails =
    not-there (spent_ids kept) (spent_ids added) (spent_ids (kept ++ added)) id (map-append (λ acts. coin_id acts.coin) kept added) fails
present-still kept added coin (AssertConcurrentPuzzle hash) fails =
    not-there (spent_puzzles kept) (spent_puzzles added) (spent_puzzles (kept ++ added)) hash (map-append (λ acts. acts.coin.puzzle_hash) kept added) fails
present-still kept added coin _ fails = refl

created-still : (kept added : List Acts) (coin : Coin) (condition : Condition) → is_born_before kept coin condition ≡ false → is_born_before (kept ++ added) coin condition ≡ false
created-still kept added coin AssertEphemeral fails =
    not-there (created_ids kept) (created_ids added) (created_ids (kept ++ added)) (coin_id coin) (created-both kept added) fails
created-still kept added coin _ fails = refl

pub acts-grow : ActsGrow
acts-grow = (
  acts-added (λ list coin. is_unmade list) made-still,
  acts-added (λ list coin. is_absent list) present-still,
  acts-added is_born_before created-still,
)

-- ---- ids

rest-repeats : (earlier : List Hash32) (place : ℕ) (kept added : List Hash32) → repeat_behind earlier place kept ≡ None
    → repeat_behind earlier place (kept ++ added) ≡ repeat_behind (reverse kept ++ earlier) (place + length kept) added
rest-repeats earlier place [] added none = ap (λ n. repeat_behind earlier n added) (omega arith)
rest-repeats earlier place (id ∷ kept) added none =
    let here = neither (is_among earlier id) place (repeat_behind (id ∷ earlier) (suc place) kept) none in
    let turned : reverse kept ++ (id ∷ earlier) ≡ reverse (id ∷ kept) ++ earlier =
    sym (append_assoc (reverse kept) (id ∷ []) earlier) ∙ ap (λ ids. ids ++ earlier) (sym (reverse-append (id ∷ []) kept)) in
    cond-false (is_among earlier id) (Some place) (repeat_behind (id ∷ earlier) (suc place) (kept ++ added)) here.0
    ∙ rest-repeats (id ∷ earlier) (suc place) kept added here.1
    ∙ (λ j. repeat_behind (turned j) (later place (length kept) j) added)
  where
    later : (place count : ℕ) → suc place + count ≡ place + suc count
    later place count = omega arith

pub spent-twice-grows : SpentTwiceGrows
spent-twice-grows kept added none =
    ap (repeat_behind [] 0) (map-append (λ spend. coin_id spend.coin) kept added)
    ∙ rest-repeats [] 0 (ids_spent kept) (ids_spent added) none
    ∙ (λ j. repeat_behind (no-more (reverse (ids_spent kept)) j) (as-many kept j) (ids_spent added))
  where
    no-more : (ids : List Hash32) → ids ++ [] ≡ ids
    no-more [] = refl
    no-more (id ∷ ids) = ap (λ more. id ∷ more) (no-more ids)

    as-many : (spends : List Spend) → 0 + length (ids_spent spends) ≡ length spends
    as-many [] = refl
    as-many (spend ∷ spends) = omega (arith, as-many spends)

rest-old : (is_there : Hash32 → Bool) (earlier : List Hash32) (place : ℕ) (kept added : List Acts) → old_id_from is_there earlier place (created_by_each kept) ≡ None
    → old_id_from is_there earlier place (created_by_each (kept ++ added)) ≡ old_id_from is_there (earlier ++ created_ids kept) (place + length kept) (created_by_each added)
rest-old is_there earlier place [] added none =
    λ j. old_id_from is_there (more earlier j) (same place j) (created_by_each added)
  where
    more : (ids : List Hash32) → ids ≡ ids ++ []
    more [] = refl
    more (id ∷ ids) = ap (λ others. id ∷ others) (more ids)

    same : (n : ℕ) → n ≡ n + 0
    same n = omega arith
rest-old is_there earlier place (acts ∷ kept) added none =
    let ids = map coin_id (of_spend coin_made acts) in
    let here = neither (has_old_id is_there earlier ids) place (old_id_from is_there (earlier ++ ids) (suc place) (created_by_each kept)) none in
    let all : (earlier ++ ids) ++ created_ids kept ≡ earlier ++ created_ids (acts ∷ kept) =
    append_assoc earlier ids (created_ids kept) ∙ ap (λ more. earlier ++ more) (sym (map-append coin_id (of_spend coin_made acts) (created_coins kept))) in
    cond-false (has_old_id is_there earlier ids) (Some place) (old_id_from is_there (earlier ++ ids) (suc place) (created_by_each (kept ++ added))) here.0
    ∙ rest-old is_there (earlier ++ ids) (suc place) kept added here.1
    ∙ (λ j. old_id_from is_there (all j) (later place (length kept) j) (created_by_each added))
  where
    later : (place count : ℕ) → suc place + count ≡ place + suc count
    later place count = omega arith

pub new-coins-grow : NewCoinsGrow
new-coins-grow kept added attested none =
    ap (λ acts. old_id_from (is_in_chain kept.ledger) [] 0 (created_by_each acts)) (map-append acts_of kept.list added)
    ∙ rest-old (is_in_chain kept.ledger) [] 0 (acts_in kept) (map acts_of added) none
    ∙ ap (λ n. old_id_from (is_in_chain kept.ledger) (created_ids (acts_in kept)) n (created_by_each (map acts_of added))) (as-many kept.list)
  where
    as-many : (list : List Facts) → 0 + length (map acts_of list) ≡ length list
    as-many [] = refl
    as-many (facts ∷ list) = omega (arith, as-many list)

-- ---- costs and sums

rest-costs : (terms : Terms) (peak : Peak) (earlier kept added : List Facts) (verdict : Verdict) (cost fee : ℕ) → with_costs terms peak earlier kept (Fine cost fee) ≡ Fine cost fee
    → with_costs terms peak earlier (kept ++ added) verdict ≡ with_costs terms peak (earlier ++ kept) added verdict
rest-costs terms peak earlier [] added verdict cost fee within = ap (λ list. with_costs terms peak list added verdict) (more earlier)
  where
    more : (list : List Facts) → list ≡ list ++ []
    more [] = refl
    more (facts ∷ list) = ap (λ others. facts ∷ others) (more list)
rest-costs terms peak earlier (facts ∷ kept) added verdict cost fee within =
    let over = nat_lt terms.limit (cost_of terms peak (earlier ++ facts ∷ [])) in
    let here = within-one over (length earlier) (with_costs terms peak (earlier ++ facts ∷ []) kept (Fine cost fee)) cost fee within in
    cond-false over _ (with_costs terms peak (earlier ++ facts ∷ []) (kept ++ added) verdict) here.0
    ∙ rest-costs terms peak (earlier ++ facts ∷ []) kept added verdict cost fee here.1
    ∙ ap (λ list. with_costs terms peak list added verdict) (append_assoc earlier (facts ∷ []) kept)

pub costs-grow : CostsGrow
costs-grow terms peak kept added verdict cost fee within = rest-costs terms peak [] kept added verdict cost fee within

pub messages-grow : MessagesGrow
messages-grow given kept added message =
    ap (count_by (is_same_message message)) (of-both given kept added)
    ∙ sum_by-append (λ (other : Message). cond (is_same_message message other) 1 0) (of_list given kept) (of_list given added)

pub sums-grow : SumsGrow
sums-grow kept added = (
  sum_by-append (λ (acts : Acts). acts.coin.amount) kept added,
  ap (sum_by (λ (coin : Coin). coin.amount)) (of-both coin_made kept added) ∙ sum_by-append (λ (coin : Coin). coin.amount) (created_coins kept) (created_coins added),
  sum_by-append (λ (acts : Acts). sum_by fee_reserved acts.conditions) kept added,
)
