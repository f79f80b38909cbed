-- How the counts of messages and their first places go on with one more letter.
use Prim.Native.Nat.{zero, suc}
use Rattle.std.proofs.Common.{◌≡◌, ◌≤◌, ◌<◌, ℕ, ◌+◌, ◌==◌, ◌&&◌, ◌||◌, not, Bool, true, false, cond, Option, Some, None, unwrap_or, List, [], ◌∷◌, ◌++◌, length, refl, ap, sym, ◌∙◌, true≢false, arith}
use Rattle.std.specs.Prelude.{option_map, position, count_by, slice_get}
use Rattle.std.specs.List.{list_any, find, flat_map, position_from, position_or_len}
use Rattle.std.specs.Option.{option_or, option_map_or}
use Rattle.std.specs.Map.{lookup, keys_of}
use Rattle.std.proofs.lemmas.Bool.{eqb-true, eq-eqb, ne_eqb, or_right, or_left}
use Rattle.std.proofs.lemmas.List.Folds.{list_any-append}
use Rattle.std.proofs.lemmas.List.Sums.{sum_by-append, sum_by-cons, count_by-le-length}
use Rattle.std.proofs.lemmas.Iterator.Adapters.{position_from-zero}
use Rattle.std.proofs.Math.Nat.{add-zero}
use Rattle.indexmap.specs.IndexMap.{insert_entry}
use Rattle.coin_facts.specs.Steps.{when}
use Rattle.cond_spec.specs.Acts.{Acts}
use Rattle.cond_spec.specs.Messages.{Message, is_same_message}
use Rattle.cond_rules.specs.declared.letter.Way.{Way}
use Rattle.cond_rules.specs.declared.letter.Way.TheVariants.{Sent, Received}
use Rattle.cond_rules.specs.declared.letter.Letter.{Letter}
use Rattle.cond_rules.specs.declared.letters.Counts.{Counts}
use Rattle.cond_rules.specs.Deeds.{letter}
use Rattle.cond_rules.specs.IndexQueue.{holds}
use Rattle.cond_rules.specs.Letters.{is_same_way, is_same_letter, times_of, is_even, fresh, more, times_in, first_with, is_any, AddsLetters, AreLettersOf}
use Rattle.cond_rules.specs.LettersInside.{is_uneven_at}
use Rattle.cond_rules.proofs.ListLaws.{flat-push}
use Rattle.cond_rules.specs.MessageSameness.{same_message-is, same_message-sym}

abbrev Entries : Type 0
Entries = List (Message × Counts)

-- ---- counts

-- the counts of a message before
abbrev pub known : Entries → Message → ℕ → Counts
known counts message place = unwrap_or (lookup (is_same_message message) counts) (fresh place)

times-fresh : (way : Way) (place : ℕ) → times_of way (fresh place) ≡ 0
times-fresh Sent place = refl
times-fresh Received place = refl

times-of : (way : Way) (place : ℕ) (kept : Option Counts) → times_of way (unwrap_or kept (fresh place)) ≡ option_map_or (times_of way) kept 0
times-of way place None = times-fresh way place
times-of way place (Some counts) = refl

times-more : (way one : Way) (counts : Counts) → times_of way (more one counts) ≡ times_of way counts + cond (is_same_way way one) 1 0
times-more Sent Sent counts = refl
times-more Sent Received counts = sym (add-zero counts.sent)
times-more Received Sent counts = sym (add-zero counts.received)
times-more Received Received counts = refl

count-one : {A : Type 0} (test : A → Bool) (x : A) → count_by test (x ∷ []) ≡ cond (test x) 1 0
count-one test x = sum_by-cons (λ y. cond (test y) 1 0) x [] ∙ add-zero (cond (test x) 1 0)

and-true : (a : Bool) → (a && true) ≡ a
and-true true = refl
and-true false = refl

and-false : (a : Bool) → (a && false) ≡ false
and-false true = refl
and-false false = refl

pub times-one : (old new : Entries) (way : Way) (message : Message) (place : ℕ)
    → ((other : Message) → lookup (is_same_message other) new
    ≡ cond (is_same_message message other) (Some (more way (known old message place))) (lookup (is_same_message other) old))
    → (some : Letter) → times_in new some ≡ times_in old some + count_by (is_same_letter some) (letter way message ∷ [])
times-one old new way message place updates some = by (is_same_message message some.message) refl
  where
    counted : (same : Bool) → is_same_message message some.message ≡ same
        → count_by (is_same_letter some) (letter way message ∷ []) ≡ cond (is_same_way some.way way && same) 1 0
    counted same e =
        count-one (is_same_letter some) (letter way message)
        ∙ ap (λ b. cond (is_same_way some.way way && b) 1 0) (same_message-sym some.message message ∙ e)

    by : (same : Bool) → is_same_message message some.message ≡ same → times_in new some ≡ times_in old some + count_by (is_same_letter some) (letter way message ∷ [])
    by true e =
        let before = known old message place in
        let here : times_in new some ≡ times_of some.way (more way before) =
        ap (λ kept. option_map_or (times_of some.way) kept 0) (updates some.message ∙ ap (λ b. cond b (Some (more way before)) (lookup (is_same_message some.message) old)) e) in
        let was : times_of some.way before ≡ times_in old some =
        times-of some.way place (lookup (is_same_message message) old) ∙ ap (λ m. times_in old (letter some.way m)) (same_message-is message some.message e) in
        let count = counted true e ∙ ap (λ b. cond b 1 0) (and-true (is_same_way some.way way)) in
        let grown = times-more some.way way before in
        omega arith
    by false e =
        let here : times_in new some ≡ times_in old some =
        ap (λ kept. option_map_or (times_of some.way) kept 0)
        (updates some.message ∙ ap (λ b. cond b (Some (more way (known old message place))) (lookup (is_same_message some.message) old)) e) in
        let count = counted false e ∙ ap (λ b. cond b 1 0) (and-false (is_same_way some.way way)) in
        omega arith

pub most-one : (old new : Entries) (total : ℕ) (one : Letter)
    → ((some : Letter) → times_in new some ≡ times_in old some + count_by (is_same_letter some) (one ∷ []))
    → ((some : Letter) → times_in old some ≤ total) → (some : Letter) → times_in new some ≤ total + 1
most-one old new total one times most some = omega (arith, times some, most some, count_by-le-length (is_same_letter some) (one ∷ []))

-- ---- first places

or-none : {A : Type 0} (o : Option A) → option_or o None ≡ o
or-none None = refl
or-none (Some x) = refl

pub first-one : (message : Message) (counts : Counts) (place : ℕ) (test : Message → Bool) (entries : Entries)
    → counts.first ≡ (unwrap_or (lookup (is_same_message message) entries) (fresh place)).first
    → first_with test (insert_entry is_same_message entries message counts) ≡ option_or (first_with test entries) (when (test message) place)
first-one message counts place test [] is =
    let added : Message × Counts = (message, counts) in
    elim (test message) as (λ b. option_map (λ entry. entry.1.first) (cond b (Some added) None) ≡ when b place) [ true ↦ ap Some is | false ↦ refl ]
first-one message counts place test (e ∷ es) is = by (is_same_message message e.0) refl is (first-one message counts place test es)
  where
    by : (same : Bool) → is_same_message message e.0 ≡ same
        → counts.first ≡ (unwrap_or (cond same (Some e.1) (lookup (is_same_message message) es)) (fresh place)).first
        → (counts.first ≡ (unwrap_or (lookup (is_same_message message) es) (fresh place)).first
        → first_with test (insert_entry is_same_message es message counts) ≡ option_or (first_with test es) (when (test message) place))
        → first_with test (cond same ((e.0, counts) ∷ es) (e ∷ insert_entry is_same_message es message counts))
        ≡ option_or (first_with test (e ∷ es)) (when (test message) place)
    by true same first rest =
        elim (test e.0) as (λ b. option_map (λ entry. entry.1.first) (cond b (Some (e.0, counts)) (find (λ entry. test entry.0) es))
        ≡ option_or (option_map (λ entry. entry.1.first) (cond b (Some e) (find (λ entry. test entry.0) es))) (when b place))
        [ true ↦ ap Some first | false ↦ sym (or-none (first_with test es)) ]
        ∙ ap (λ b. option_or (first_with test (e ∷ es)) (when b place)) (sym (ap test (same_message-is message e.0 same)))
    by false same first rest =
        elim (test e.0) as (λ b. option_map (λ entry. entry.1.first) (cond b (Some e) (find (λ entry. test entry.0) (insert_entry is_same_message es message counts)))
        ≡ option_or (option_map (λ entry. entry.1.first) (cond b (Some e) (find (λ entry. test entry.0) es))) (when (test message) place))
        [ true ↦ refl | false ↦ rest first ]

more-first : (way : Way) (counts : Counts) → (more way counts).first ≡ counts.first
more-first Sent counts = refl
more-first Received counts = refl

or_false : (b : Bool) → (b || false) ≡ b
or_false true = refl
or_false false = refl

-- ---- letters of spends

pub adds-one : (old new : Entries) (way : Way) (message : Message) (place : ℕ)
    → ((other : Message) → lookup (is_same_message other) new
    ≡ cond (is_same_message message other) (Some (more way (known old message place))) (lookup (is_same_message other) old))
    → new ≡ insert_entry is_same_message old message (more way (known old message place))
    → AddsLetters old place (letter way message ∷ []) new
adds-one old new way message place updates inserts = record {
  times = times-one old new way message place updates;
  first = λ test. ap (first_with test) inserts
      ∙ first-one message (more way (known old message place)) place test old (more-first way (known old message place))
      ∙ ap (λ b. option_or (first_with test old) (when b place)) (sym (or_false (test message)));
}

pub adds-none : (old : Entries) (place : ℕ) → AddsLetters old place [] old
adds-none old place = record { times = λ some. sym (add-zero (times_in old some)); first = λ test. sym (or-none (first_with test old)) }

or-or : (o : Option ℕ) (a b : Bool) (place : ℕ) → option_or (option_or o (when a place)) (when b place) ≡ option_or o (when (a || b) place)
or-or (Some x) a b place = refl
or-or None true b place = refl
or-or None false b place = refl

pub adds-both : (old mid new : Entries) (place : ℕ) (xs ys : List Letter)
    → AddsLetters old place xs mid → AddsLetters mid place ys new → AddsLetters old place (xs ++ ys) new
adds-both old mid new place xs ys one two = record {
  times = λ some.
      let both = sum_by-append (λ x. cond (is_same_letter some x) 1 0) xs ys in
      omega (arith, one.times some, two.times some);
  first = λ test. two.first test ∙ ap (λ o. option_or o (when (is_any test ys) place)) (one.first test)
      ∙ or-or (first_with test old) (is_any test xs) (is_any test ys) place
      ∙ ap (λ b. option_or (first_with test old) (when b place)) (sym (list_any-append (λ x. test x.message) xs ys));
}

position_from-push : {A : Type 0} (test : A → Bool) (place : ℕ) (xs : List A) (x : A)
    → position_from test place (xs ++ x ∷ []) ≡ option_or (position_from test place xs) (when (test x) (place + length xs))
position_from-push test place [] x = ap (λ n. when (test x) n) (sym (add-zero place))
position_from-push test place (first ∷ xs) x =
    let count : (place + 1) + length xs ≡ place + length (first ∷ xs) = omega arith in
    elim (test first) as (λ b. cond b (Some place) (position_from test (place + 1) (xs ++ x ∷ []))
    ≡ option_or (cond b (Some place) (position_from test (place + 1) xs)) (when (test x) (place + length (first ∷ xs))))
    [ true ↦ refl | false ↦ position_from-push test (place + 1) xs x ∙ ap (λ n. option_or (position_from test (place + 1) xs) (when (test x) n)) count ]

position-push : {A : Type 0} (test : A → Bool) (xs : List A) (x : A) → position test (xs ++ x ∷ []) ≡ option_or (position test xs) (when (test x) (length xs))
position-push test xs x =
    position_from-zero test (xs ++ x ∷ []) ∙ position_from-push test 0 xs x
    ∙ (λ i. option_or (sym (position_from-zero test xs) i) (when (test x) (zero-and (length xs) i)))
  where
    zero-and : (n : ℕ) → 0 + n ≡ n
    zero-and n = omega arith

pub letters-push : (letters : Acts → List Letter) (old new : Entries) (list : List Acts) (acts : Acts) (place : ℕ) → place ≡ length list
    → AreLettersOf letters old list → AddsLetters old place (letters acts) new → AreLettersOf letters new (list ++ acts ∷ [])
letters-push letters old new list acts place last are adds = record {
  times = λ some. adds.times some ∙ ap (λ n. n + count_by (is_same_letter some) (letters acts)) (are.times some)
      ∙ sym (sum_by-append (λ x. cond (is_same_letter some x) 1 0) (flat_map letters list) (letters acts))
      ∙ ap (λ all. count_by (is_same_letter some) all) (sym (flat-push letters list acts));
  first = λ test. adds.first test
      ∙ (λ i. option_or (are.first test i) (when (is_any test (letters acts)) (last i)))
      ∙ sym (position-push (λ each. is_any test (letters each)) list acts);
}

pub letters-along : {old was : Entries} {place n : ℕ} {letters given : List Letter} {new : Entries} → AddsLetters old place letters new
    → old ≡ was → place ≡ n → letters ≡ given → AddsLetters was n given new
letters-along adds o p l = record {
  times = λ some. adds.times some ∙ (λ i. times_in (o i) some + count_by (is_same_letter some) (l i));
  first = λ test. adds.first test ∙ (λ i. option_or (first_with test (o i)) (when (is_any test (l i)) (p i)));
}
