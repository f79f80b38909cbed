-- Records found in a ledger that grew by a block, and in a part of one.
use Rattle.std.proofs.Common.{◌≡◌, ℕ, suc, ◌==◌, Bool, true, false, ◌&&◌, ◌||◌, cond, if◌then◌else◌, Option, Some, None, List, [], ◌∷◌, ◌++◌, map, refl, ap, sym, ◌∙◌}
use Rattle.std.specs.Prelude.{filter}
use Rattle.std.specs.List.{find, list_any}
use Rattle.std.specs.Option.{option_or}
use Rattle.std.proofs.lemmas.Bool.{false≢true, eqb-true, and_parts, or_parts, or_right}
use Rattle.std.proofs.lemmas.List.Folds.{find-append, list_any-append}
use Rattle.std.proofs.lemmas.Slice.Eq.{bytes_eq-Decides}
use Rattle.coin_facts.specs.declared.hash32.Hash32.{Hash32}
use Rattle.coin_facts.specs.declared.coin.Coin.{Coin}
use Rattle.coin_facts.specs.CoinId.{coin_id}
use Rattle.coin_facts.specs.IdLists.{is_same_id, has_id, is_among}
use Rattle.chain_spec.specs.declared.chain.Record.{Record}
use Rattle.chain_spec.specs.Chain.{made_at, spent_at}
use Rattle.chain_spec.specs.Looks.{is_unspent_of, is_outside, is_of_pair, is_asked, unspent_in}
use Rattle.chain_spec.specs.ChainLaws.{is_pair, UntouchedStand, PartSufficesForIds, PartSufficesForPairs}

-- ids that test as the same are one id
pub same-id : (a b : Hash32) → is_same_id a b ≡ true → a ≡ b
same-id a b e = ap (λ bytes. record { bytes = bytes }) ((bytes_eq-Decides a.bytes b.bytes).0 e)

found : Hash32 → Record → Bool
found id record_ = has_id id record_.coin

-- ---- a block more

-- whether a coin has an id, where the block spends none of that id
kept-one : (height : ℕ) (spent : List Hash32) (id : Hash32) (one : Record) (has spends : Bool) → found id one ≡ has → is_among spent (coin_id one.coin) ≡ spends → is_among spent id ≡ false
    → cond has (Some (if spends then record one { spent = Some height } else one)) None ≡ cond has (Some one) None
unfolding found
kept-one height spent id one true true is goes new =
    absurd (false≢true (sym new ∙ ap (is_among spent) (sym (same-id (coin_id one.coin) id is)) ∙ goes))
kept-one height spent id one true false is goes new = refl
kept-one height spent id one false spends is goes new = refl

same-coin : (height : ℕ) (id : Hash32) (one : Record) (spends : Bool) → found id (if spends then record one { spent = Some height } else one) ≡ found id one
unfolding found
same-coin height id one true = refl
same-coin height id one false = refl

joined : (test : Bool) (one other : Record) (rest more : Option Record) → cond test (Some one) None ≡ cond test (Some other) None → rest ≡ more → cond test (Some one) rest ≡ cond test (Some other) more
joined true one other rest more e same = e
joined false one other rest more e same = same

kept : (height : ℕ) (spent : List Hash32) (id : Hash32) (records : List Record) → is_among spent id ≡ false → find (found id) (map (spent_at height spent) records) ≡ find (found id) records
kept height spent id [] new = refl
kept height spent id (one ∷ records) new =
    let goes = is_among spent (coin_id one.coin) in
    ap (λ test. cond test (Some (spent_at height spent one)) (find (found id) (map (spent_at height spent) records))) (same-coin height id one goes)
    ∙ joined (found id one) (spent_at height spent one) one (find (found id) (map (spent_at height spent) records)) (find (found id) records)
    (kept-one height spent id one (found id one) goes refl refl new) (kept height spent id records new)

unmade : (height seconds : ℕ) (id : Hash32) (coins : List Coin) → is_among (map coin_id coins) id ≡ false → find (found id) (map (made_at height seconds) coins) ≡ None
unfolding found
unmade height seconds id [] new = refl
unmade height seconds id (coin ∷ coins) new =
    let both = or_parts (is_same_id (coin_id coin) id) (is_among (map coin_id coins) id) new in
    ap (λ test. cond test (Some (made_at height seconds coin)) (find (found id) (map (made_at height seconds) coins))) both.0 ∙ unmade height seconds id coins both.1

or-none : (o : Option Record) → option_or o None ≡ o
or-none None = refl
or-none (Some one) = refl

pub untouched : UntouchedStand
unfolding found
untouched ledger block id apart =
    let both = or_parts (is_among block.spent id) (is_among (map coin_id block.created) id) (sym (list_any-append (λ other. is_same_id other id) block.spent (map coin_id block.created)) ∙ apart) in
    let height = suc ledger.peak.height in
    let made = map (made_at height block.seconds) block.created in
    kept height block.spent id (ledger.records ++ made) both.0
    ∙ find-append (found id) ledger.records made
    ∙ ap (option_or (find (found id) ledger.records)) (unmade height block.seconds id block.created both.1)
    ∙ or-none (find (found id) ledger.records)

-- ---- a part

-- What a test finds of elements that another lets through, where that lets all of them through.
find-filtered : {A : Type 0} (test keeps : A → Bool) (xs : List A) → ((x : A) → test x ≡ true → keeps x ≡ true) → find test (filter keeps xs) ≡ find test xs
find-filtered test keeps [] all = refl
find-filtered test keeps (x ∷ xs) all =
    by_tests (test x) (keeps x) refl refl (find-filtered test keeps xs all)
  where
    by_tests : (passes stays : Bool) → test x ≡ passes → keeps x ≡ stays → find test (filter keeps xs) ≡ find test xs → find test (cond (keeps x) (x ∷ filter keeps xs) (filter keeps xs)) ≡ cond (test x) (Some x) (find test xs)
    by_tests true true is kept more = ap (λ b. find test (cond b (x ∷ filter keeps xs) (filter keeps xs))) kept ∙ ap (λ b. cond b (Some x) (find test (filter keeps xs))) is ∙ sym (ap (λ b. cond b (Some x) (find test xs)) is)
    by_tests true false is kept more = absurd (false≢true (sym kept ∙ all x is))
    by_tests false true is kept more = ap (λ b. find test (cond b (x ∷ filter keeps xs) (filter keeps xs))) kept ∙ ap (λ b. cond b (Some x) (find test (filter keeps xs))) is ∙ more ∙ sym (ap (λ b. cond b (Some x) (find test xs)) is)
    by_tests false false is kept more = ap (λ b. find test (cond b (x ∷ filter keeps xs) (filter keeps xs))) kept ∙ more ∙ sym (ap (λ b. cond b (Some x) (find test xs)) is)

filter-filtered : {A : Type 0} (test keeps : A → Bool) (xs : List A) → ((x : A) → test x ≡ true → keeps x ≡ true) → filter test (filter keeps xs) ≡ filter test xs
filter-filtered test keeps [] all = refl
filter-filtered test keeps (x ∷ xs) all =
    by_tests (test x) (keeps x) refl refl (filter-filtered test keeps xs all)
  where
    by_tests : (passes stays : Bool) → test x ≡ passes → keeps x ≡ stays → filter test (filter keeps xs) ≡ filter test xs → filter test (cond (keeps x) (x ∷ filter keeps xs) (filter keeps xs)) ≡ cond (test x) (x ∷ filter test xs) (filter test xs)
    by_tests true true is kept more =
        ap (λ b. filter test (cond b (x ∷ filter keeps xs) (filter keeps xs))) kept
        ∙ ap (λ list. cond (test x) (x ∷ list) list) (more)
    by_tests true false is kept more = absurd (false≢true (sym kept ∙ all x is))
    by_tests false true is kept more =
        ap (λ b. filter test (cond b (x ∷ filter keeps xs) (filter keeps xs))) kept
        ∙ ap (λ list. cond (test x) (x ∷ list) list) (more)
    by_tests false false is kept more =
        ap (λ b. filter test (cond b (x ∷ filter keeps xs) (filter keeps xs))) kept
        ∙ more
        ∙ sym (ap (λ b. cond b (x ∷ filter test xs) (filter test xs)) is)

pub suffices-ids : PartSufficesForIds
unfolding found
suffices-ids ids pairs ledger id asked =
    find-filtered (found id) (is_asked ids pairs) ledger.records (λ one is.
    ap (λ b. b || list_any (is_of_pair one) pairs) (ap (is_among ids) (same-id (coin_id one.coin) id is) ∙ asked))

-- A pair that is asked for is that of an unspent record.
any-pair : (one : Record) (puzzle_hash : Hash32) (amount : ℕ) (pairs : List (Hash32 × ℕ)) → is_unspent_of puzzle_hash amount one ≡ true → list_any (is_pair puzzle_hash amount) pairs ≡ true → list_any (is_of_pair one) pairs ≡ true
any-pair one puzzle_hash amount [] is asked = cc
any-pair one puzzle_hash amount (pair ∷ pairs) is asked = step (is_pair puzzle_hash amount pair) refl (any-pair one puzzle_hash amount pairs is) asked
  where
    step : (b : Bool) → is_pair puzzle_hash amount pair ≡ b → (list_any (is_pair puzzle_hash amount) pairs ≡ true → list_any (is_of_pair one) pairs ≡ true) → (b || list_any (is_pair puzzle_hash amount) pairs) ≡ true → (is_of_pair one pair || list_any (is_of_pair one) pairs) ≡ true
    step true same more h =
        let both = and_parts (is_same_id puzzle_hash pair.0) (amount == pair.1) same in
        let here : is_of_pair one pair ≡ true =
        (λ j. is_unspent_of (sym (same-id puzzle_hash pair.0 both.0) j) (sym (eqb-true amount pair.1 both.1) j) one) ∙ is in
        ap (λ b. b || list_any (is_of_pair one) pairs) here
    step false same more h = or_right (is_of_pair one pair) (list_any (is_of_pair one) pairs) (more h)

pub suffices-pairs : PartSufficesForPairs
suffices-pairs ids pairs ledger puzzle_hash amount except asked =
    ap (λ records. unspent_in (filter (is_outside except) records))
    (filter-filtered (is_unspent_of puzzle_hash amount) (is_asked ids pairs) ledger.records (λ one is.
    or_right (is_among ids (coin_id one.coin)) (list_any (is_of_pair one) pairs) (any-pair one puzzle_hash amount pairs is asked)))
