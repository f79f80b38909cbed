-- Unspent coins of a puzzle hash and an amount, in two ledgers that differ elsewhere.
use Rattle.std.proofs.Common.{◌≡◌, ℕ, ◌==◌, Bool, true, false, ◌&&◌, ◌||◌, cond, Option, Some, List, [], ◌∷◌, refl, ap, sym, ◌∙◌}
use Rattle.std.specs.Prelude.{filter, is_none}
use Rattle.std.specs.List.{IsDistinct, AllByRecursion, find}
use Rattle.std.proofs.lemmas.Bool.{false≢true, and_parts, or_left, or_right}
use Rattle.std.proofs.lemmas.Slice.Eq.{bytes_eq-Decides}
use Rattle.coin_facts.specs.declared.hash32.Hash32.{Hash32}
use Rattle.coin_facts.specs.CoinId.{coin_id}
use Rattle.coin_facts.specs.IdLists.{is_same_id, has_id, is_among}
use Rattle.chain_spec.specs.declared.chain.Record.{Record}
use Rattle.chain_spec.specs.declared.chain.Unspent.TheVariants as unspent
use Rattle.chain_spec.specs.Chain.{Ledger, look_up}
use Rattle.chain_spec.specs.Looks.{is_unspent_of, is_outside, unspent_in}
use Rattle.chain_spec.specs.ChainLaws.{ids_of}
use Rattle.chain_spec.specs.ChangeLaws.{is_of, PairsStand}
use Rattle.chain_spec.proofs.LookLaws.{same-id}

abbrev id_of : Record → Hash32
id_of one = coin_id one.coin

abbrev find_id : Hash32 → List Record → Option Record
find_id id records = find (λ found. has_id id found.coin) records

itself : (id : Hash32) → is_same_id id id ≡ true
itself id = (bytes_eq-Decides id.bytes id.bytes).1 refl

-- ---- records that are found by their ids

IsFoundIn : List Record → Record → Type 0
IsFoundIn records one = find_id (id_of one) records ≡ Some one

found-behind : (first : Record) (records list : List Record) → AllByRecursion (λ id. is_same_id (id_of first) id ≡ false) (ids_of list) → AllByRecursion (IsFoundIn records) list → AllByRecursion (IsFoundIn (first ∷ records)) list
unfolding IsFoundIn
found-behind first records [] apart found = tt
found-behind first records (one ∷ list) apart found =
    (ap (λ test. cond test (Some first) (find_id (id_of one) records)) apart.0 ∙ found.0, found-behind first records list apart.1 found.1)

all-found : (records : List Record) → IsDistinct is_same_id (ids_of records) → AllByRecursion (IsFoundIn records) records
unfolding IsFoundIn IsDistinct
all-found [] distinct = tt
all-found (one ∷ records) distinct =
    (ap (λ test. cond test (Some one) (find_id (id_of one) records)) (itself (id_of one)), found-behind one records records distinct.0 (all-found records distinct.1))

-- ---- what passes a test

kept-all : (P : Record → Type 0) (test : Record → Bool) (list : List Record) → AllByRecursion P list → AllByRecursion (λ one. P one × (test one ≡ true)) (filter test list)
kept-all P test [] all = tt
kept-all P test (one ∷ list) all = by_test (test one) refl (kept-all P test list all.1)
  where
    by_test : (b : Bool) → test one ≡ b → AllByRecursion (λ one. P one × (test one ≡ true)) (filter test list) → AllByRecursion (λ one. P one × (test one ≡ true)) (cond b (one ∷ filter test list) (filter test list))
    by_test true is others = ((all.0, is), others)
    by_test false is others = others

ids-apart : (test : Record → Bool) (id : Hash32) (list : List Record) → AllByRecursion (λ other. is_same_id id other ≡ false) (ids_of list) → AllByRecursion (λ other. is_same_id id other ≡ false) (ids_of (filter test list))
ids-apart test id [] apart = tt
ids-apart test id (one ∷ list) apart = by_test (test one) (ids-apart test id list apart.1)
  where
    by_test : (b : Bool) → AllByRecursion (λ other. is_same_id id other ≡ false) (ids_of (filter test list)) → AllByRecursion (λ other. is_same_id id other ≡ false) (ids_of (cond b (one ∷ filter test list) (filter test list)))
    by_test true others = (apart.0, others)
    by_test false others = others

kept-distinct : (test : Record → Bool) (list : List Record) → IsDistinct is_same_id (ids_of list) → IsDistinct is_same_id (ids_of (filter test list))
unfolding IsDistinct
kept-distinct test [] distinct = tt
kept-distinct test (one ∷ list) distinct = by_test (test one) (kept-distinct test list distinct.1)
  where
    by_test : (b : Bool) → IsDistinct is_same_id (ids_of (filter test list)) → IsDistinct is_same_id (ids_of (cond b (one ∷ filter test list) (filter test list)))
    by_test true others = (ids-apart test (id_of one) list distinct.0, others)
    by_test false others = others

-- A record that is found and passes is among those that pass.
passes-among : (test : Record → Bool) (id : Hash32) (one : Record) (records : List Record) → find_id id records ≡ Some one → test one ≡ true → is_among (ids_of (filter test records)) id ≡ true
passes-among test id one [] e passes = cc
passes-among test id one (first ∷ records) e passes = by_tests (has_id id first.coin) (test first) refl refl e (λ found. passes-among test id one records found passes)
  where
    by_tests : (has kept : Bool) → has_id id first.coin ≡ has → test first ≡ kept → cond has (Some first) (find_id id records) ≡ Some one → (find_id id records ≡ Some one → is_among (ids_of (filter test records)) id ≡ true)
        → is_among (ids_of (cond kept (first ∷ filter test records) (filter test records))) id ≡ true
    by_tests true true is stays e more = or_left (has_id id first.coin) (is_among (ids_of (filter test records)) id) is
    by_tests true false is stays e more = let same : first ≡ one = cc in absurd (false≢true (sym stays ∙ ap test same ∙ passes))
    by_tests false true is stays e more = or_right (has_id id first.coin) (is_among (ids_of (filter test records)) id) (more e)
    by_tests false false is stays e more = more e

-- ---- the same records pass in both ledgers

both-filters : (a b : Record → Bool) (list : List Record) → filter b (filter a list) ≡ filter (λ one. a one && b one) list
both-filters a b [] = refl
both-filters a b (one ∷ list) = by_test (a one) (both-filters a b list)
  where
    by_test : (t : Bool) → filter b (filter a list) ≡ filter (λ other. a other && b other) list
        → filter b (cond t (one ∷ filter a list) (filter a list)) ≡ cond (t && b one) (one ∷ filter (λ other. a other && b other) list) (filter (λ other. a other && b other) list)
    by_test true more = ap (λ others. cond (b one) (one ∷ others) others) more
    by_test false more = more

module _ (puzzle_hash : Hash32) (amount : ℕ) (except changes : List Hash32) where
  abbrev passes : Record → Bool
  passes one = is_unspent_of puzzle_hash amount one && is_outside except one

  of-pair : (one : Record) → passes one ≡ true → is_of puzzle_hash amount (Some one) ≡ true
  of-pair one e =
      let unspent = (and_parts (is_unspent_of puzzle_hash amount one) (is_outside except one) e).0 in
      (and_parts (is_same_id one.coin.puzzle_hash puzzle_hash && (one.coin.amount == amount)) (is_none one.spent) (regroup (is_same_id one.coin.puzzle_hash puzzle_hash) (one.coin.amount == amount) (is_none one.spent) unspent)).0
    where
      regroup : (a b c : Bool) → (a && b && c) ≡ true → ((a && b) && c) ≡ true
      regroup true b c e = e
      regroup false b c e = cc

  also-there : (ledger other : Ledger) (one : Record) → ((id : Hash32) → is_among changes id ≡ false → look_up other id ≡ look_up ledger id)
      → ((id : Hash32) → is_among changes id ≡ true → is_of puzzle_hash amount (look_up ledger id) ≡ false)
      → find_id (id_of one) ledger.records ≡ Some one → passes one ≡ true → is_among (ids_of (filter passes other.records)) (id_of one) ≡ true
  also-there ledger other one same elsewhere found goes = by_change (is_among changes (id_of one)) refl
    where
      by_change : (b : Bool) → is_among changes (id_of one) ≡ b → is_among (ids_of (filter passes other.records)) (id_of one) ≡ true
      by_change true is = absurd (false≢true (sym (elsewhere (id_of one) is) ∙ ap (is_of puzzle_hash amount) found ∙ of-pair one goes))
      by_change false is = passes-among passes (id_of one) one other.records (same (id_of one) is ∙ found) goes

  all-there : (ledger other : Ledger) (list : List Record) → ((id : Hash32) → is_among changes id ≡ false → look_up other id ≡ look_up ledger id)
      → ((id : Hash32) → is_among changes id ≡ true → is_of puzzle_hash amount (look_up ledger id) ≡ false)
      → AllByRecursion (λ one. (find_id (id_of one) ledger.records ≡ Some one) × (passes one ≡ true)) list
      → AllByRecursion (λ one. is_among (ids_of (filter passes other.records)) (id_of one) ≡ true) list
  all-there ledger other [] same elsewhere all = tt
  all-there ledger other (one ∷ list) same elsewhere all =
      (also-there ledger other one same elsewhere all.0.0 all.0.1, all-there ledger other list same elsewhere all.1)

-- ---- none, one or several

only : (a b : Hash32) → (is_same_id a b || false) ≡ true → a ≡ b
only a b e = same-id a b (first (is_same_id a b) e)
  where
    first : (x : Bool) → (x || false) ≡ true → x ≡ true
    first true e = refl
    first false e = cc

two-of-one : (a b c : Hash32) → (is_same_id a b || false) ≡ true → (is_same_id a c || false) ≡ true → ¬ (is_same_id b c ≡ false)
two-of-one a b c one other apart =
    false≢true (sym apart ∙ ap (λ id. is_same_id id c) (sym (only a b one)) ∙ ap (is_same_id a) (sym (only a c other)) ∙ itself a)

same-unspent : (xs ys : List Record) → AllByRecursion (λ x. is_among (ids_of ys) (id_of x) ≡ true) xs → AllByRecursion (λ y. is_among (ids_of xs) (id_of y) ≡ true) ys
    → IsDistinct is_same_id (ids_of xs) → IsDistinct is_same_id (ids_of ys) → unspent_in xs ≡ unspent_in ys
unfolding IsDistinct
same-unspent [] [] a b dx dy = refl
same-unspent [] (y ∷ ys) a b dx dy = absurd (false≢true b.0)
same-unspent (x ∷ []) [] a b dx dy = absurd (false≢true a.0)
same-unspent (x ∷ z ∷ xs) [] a b dx dy = absurd (false≢true a.0)
same-unspent (x ∷ []) (y ∷ []) a b dx dy = ap (λ id. unspent.One id) (only (id_of x) (id_of y) b.0)
same-unspent (x ∷ []) (y ∷ z ∷ ys) a b dx dy = absurd (two-of-one (id_of x) (id_of y) (id_of z) b.0 b.1.0 dy.0.0)
same-unspent (x ∷ z ∷ xs) (y ∷ []) a b dx dy = absurd (two-of-one (id_of y) (id_of x) (id_of z) a.0 a.1.0 dx.0.0)
same-unspent (x ∷ z ∷ xs) (y ∷ w ∷ ys) a b dx dy = refl

pub pairs-stand : PairsStand
unfolding IsFoundIn
pairs-stand ledger other changes puzzle_hash amount except is =
    let goes : Record → Bool = λ one. is_unspent_of puzzle_hash amount one && is_outside except one in
    let here = filter goes ledger.records in
    let there = filter goes other.records in
    let found_here = kept-all (IsFoundIn ledger.records) goes ledger.records (all-found ledger.records is.apart) in
    let found_there = kept-all (IsFoundIn other.records) goes other.records (all-found other.records is.others_apart) in
    ap unspent_in (both-filters (is_unspent_of puzzle_hash amount) (is_outside except) other.records)
    ∙ same-unspent there here
    (all-there puzzle_hash amount except changes other ledger there (λ id apart. sym (is.same id apart)) is.behind found_there)
    (all-there puzzle_hash amount except changes ledger other here is.same is.before found_here)
    (kept-distinct goes other.records is.others_apart) (kept-distinct goes ledger.records is.apart)
    ∙ ap unspent_in (sym (both-filters (is_unspent_of puzzle_hash amount) (is_outside except) ledger.records))
