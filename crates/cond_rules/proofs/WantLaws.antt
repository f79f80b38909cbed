-- Which wants are the same, and which asks are met.
use Prim.Native.Nat.{zero, suc}
use Rattle.std.proofs.Common.{◌≡◌, ◌≤◌, ◌<◌, inl, inr, ℕ, ◌+◌, ◌||◌, not, nat_lt, Bool, true, false, cond, Option, Some, None, unwrap_or, List, [], ◌∷◌, ◌++◌, length, map, take, drop, get_or, refl, ap, sym, ◌∙◌, arith}
use Rattle.std.specs.Prelude.{option_map, position}
use Rattle.std.proofs.lemmas.List.{append-nil, append_assoc}
use Rattle.std.proofs.lemmas.List.Folds.{list_any-append, list_any_more}
use Rattle.std.proofs.lemmas.List.Sums.{passes_at_first, fails_before_first}
use Rattle.std.proofs.lemmas.Bool.{cases_lt}
use Rattle.std.proofs.lemmas.Iterator.Adapters.{position_from-zero}
use Rattle.std.proofs.Math.Nat.{add-zero, zero-add}
use Rattle.std.specs.Cmp.{nat_eq_equiv}
use Rattle.std.specs.Cmp.Lexicographic.{lists_equiv}
use Rattle.std.specs.List.{list_any, find, flat_map, position_or_len, position_from}
use Rattle.coin_facts.specs.declared.hash32.Hash32.{Hash32}
use Rattle.coin_facts.specs.IdLists.{is_same_id}
use Rattle.cond_spec.specs.Acts.{Acts}
use Rattle.cond_rules.specs.declared.want.Want.{Want}
use Rattle.cond_rules.specs.declared.want.Want.TheVariants.{CoinAnnouncement, PuzzleAnnouncement, Spend, Puzzle, Creation}
use Rattle.cond_rules.specs.declared.wants.Ask.{Ask}
use Rattle.cond_rules.specs.contracts.want.WantPartialEq.TheImpl.{eq-value}
use Rattle.cond_rules.proofs.ListLaws.{flat-push}
use Rattle.cond_rules.specs.Wants.{Wanted, Makes, is_same_want, is_made, is_open, count_met, first_open, asks_at, asks_from, AddsWants, AreWantsOf}

-- ---- sameness

pub same_id-sym : (a b : Hash32) → is_same_id a b ≡ is_same_id b a
same_id-sym a b = (lists_equiv nat_eq_equiv).symm a.bytes b.bytes

pub same_want-sym : (a b : Want) → is_same_want a b ≡ is_same_want b a
same_want-sym (CoinAnnouncement a) (CoinAnnouncement b) = same_id-sym a b
same_want-sym (PuzzleAnnouncement a) (PuzzleAnnouncement b) = same_id-sym a b
same_want-sym (Spend a) (Spend b) = same_id-sym a b
same_want-sym (Puzzle a) (Puzzle b) = same_id-sym a b
same_want-sym (Creation a) (Creation b) = same_id-sym a b
same_want-sym _ _ = refl

-- the keys' `==`
pub want_eq : (a b : Want) → eq-value.it a b ≡ is_same_want a b
want_eq (CoinAnnouncement a) (CoinAnnouncement b) = refl
want_eq (PuzzleAnnouncement a) (PuzzleAnnouncement b) = refl
want_eq (Spend a) (Spend b) = refl
want_eq (Puzzle a) (Puzzle b) = refl
want_eq (Creation a) (Creation b) = refl
want_eq _ _ = refl

any-eq : (want : Want) (made : List Want) → list_any (eq-value.it want) made ≡ is_made made want
any-eq want made = λ j. list_any (λ other. want_eq want other j) made

or-last : (a b c : Bool) → cond c true (a || b) ≡ (a || (b || c))
or-last true b true = refl
or-last true b false = refl
or-last false true true = refl
or-last false true false = refl
or-last false false true = refl
or-last false false false = refl

-- what a set has with one more
pub made-more : (old mid new wants : List Want) (i : ℕ) (d : Want) → i < length wants → Makes old (take i wants) mid
    → ((want : Want) → list_any (eq-value.it want) new ≡ cond (eq-value.it (get_or wants i d) want) true (list_any (eq-value.it want) mid)) → Makes old (take (i + 1) wants) new
made-more old mid new wants i d within makes updates = λ want.
    let made = get_or wants i d in
    let kept : list_any (eq-value.it want) mid ≡ (is_made old want || is_made (take i wants) want) =
    any-eq want mid ∙ makes want in
    let here : eq-value.it made want ≡ is_same_want want made = want_eq made want ∙ same_want-sym made want in
    sym (any-eq want new) ∙ updates want
    ∙ (λ j. cond (here j) true (kept j))
    ∙ or-last (is_made old want) (is_made (take i wants) want) (is_same_want want made)
    ∙ ap (λ b. is_made old want || b) (sym (list_any_more (is_same_want want) wants i d within))

-- ---- the count of asks that are met

met-step : (m n : ℕ) → m ≤ n → (b c : Bool) → (b ≡ true → c ≡ true) → cond (not (not b)) (1 + m) 0 ≤ cond (not (not c)) (1 + n) 0
met-step m n le false c more = omega arith
met-step m n le true true more = omega arith
met-step m n le true false more = let wrong : false ≡ true = more refl in cc

-- With more made and more asked at the end, no fewer of the first asks are met.
pub count_met-more : (old new : List Want) (xs ys : List Ask)
    → ((want : Want) → is_made old want ≡ true → is_made new want ≡ true) → count_met old xs ≤ count_met new (xs ++ ys)
count_met-more old new [] ys more = omega arith
count_met-more old new (x ∷ xs) ys more =
    met-step (count_met old xs) (count_met new (xs ++ ys)) (count_met-more old new xs ys more) (is_made old x.want) (is_made new x.want) (more x.want)

-- The count goes on past an ask that is met, and ends at one that is open.
pub position_or_len-more : {A : Type 0} (test : A → Bool) (xs : List A) (i : ℕ) (d : A) → i ≤ position_or_len test xs → i < length xs
    → test (get_or xs i d) ≡ false → i + 1 ≤ position_or_len test xs
position_or_len-more test xs i d le within fails =
    elim (cases_lt i (position_or_len test xs)) [
      | inl below ↦ omega arith
      | inr above ↦
          (let here : position_or_len test xs ≡ i = omega arith in
          let at : test (get_or xs (position_or_len test xs) d) ≡ true = passes_at_first test xs d (omega arith) in
          let wrong : true ≡ false = sym at ∙ ap (λ n. test (get_or xs n d)) here ∙ fails in cc)
    ]

pub position_or_len-end : {A : Type 0} (test : A → Bool) (xs : List A) (i : ℕ) (d : A) → i ≤ position_or_len test xs
    → test (get_or xs i d) ≡ true → i ≡ position_or_len test xs
position_or_len-end test xs i d le passes =
    elim (cases_lt i (position_or_len test xs)) [
      | inl below ↦ (let wrong : true ≡ false = sym passes ∙ fails_before_first test xs i d below in cc)
      | inr above ↦ omega arith
    ]

-- ---- the first that is open, by places

found-behind : (test : Want → Bool) (place : ℕ) (wants : List Want) (rest : List Ask)
    → option_map (λ ask. ask.place) (find (λ ask. test ask.want) (asks_at place wants ++ rest))
    ≡ cond (list_any test wants) (Some place) (option_map (λ ask. ask.place) (find (λ ask. test ask.want) rest))
found-behind test place [] rest = refl
found-behind test place (want ∷ wants) rest =
    elim (test want) as (λ b. option_map (λ ask. ask.place) (cond b (Some (record { place = place; want = want })) (find (λ ask. test ask.want) (asks_at place wants ++ rest)))
    ≡ cond (b || list_any test wants) (Some place) (option_map (λ ask. ask.place) (find (λ ask. test ask.want) rest)))
    [ true ↦ refl | false ↦ found-behind test place wants rest ]

found-place : (asked : Acts → List Want) (test : Want → Bool) (place : ℕ) (list : List Acts)
    → option_map (λ ask. ask.place) (find (λ ask. test ask.want) (asks_from asked place list))
    ≡ position_from (λ acts. list_any test (asked acts)) place list
found-place asked test place [] = refl
found-place asked test place (acts ∷ list) =
    found-behind test place (asked acts) (asks_from asked (place + 1) list)
    ∙ ap (λ o. cond (list_any test (asked acts)) (Some place) o) (found-place asked test (place + 1) list)

-- ---- one more spend

asks-push : (asked : Acts → List Want) (place : ℕ) (list : List Acts) (acts : Acts)
    → asks_from asked place (list ++ acts ∷ []) ≡ asks_from asked place list ++ asks_at (place + length list) (asked acts)
asks-push asked place [] acts = append-nil (asks_at place (asked acts)) ∙ ap (λ n. asks_at n (asked acts)) (sym (add-zero place))
asks-push asked place (first ∷ list) acts =
    let count : (place + 1) + length list ≡ place + length (first ∷ list) = omega arith in
    ap (λ asks. asks_at place (asked first) ++ asks) (asks-push asked (place + 1) list acts ∙ ap (λ n. asks_from asked (place + 1) list ++ asks_at n (asked acts)) count)
    ∙ sym (append_assoc (asks_at place (asked first)) (asks_from asked (place + 1) list) (asks_at (place + length (first ∷ list)) (asked acts)))

pub wants-push : (asked made : Acts → List Want) (old new : Wanted) (list : List Acts) (acts : Acts) (place : ℕ) → place ≡ length list
    → AreWantsOf asked made old list → AddsWants old place (asked acts) (made acts) new → AreWantsOf asked made new (list ++ acts ∷ [])
wants-push asked made old new list acts place last are adds = record {
  asks = adds.asks ∙ ap (λ asks. asks ++ asks_at place (asked acts)) are.asks
      ∙ ap (λ n. asks_from asked 0 list ++ asks_at n (asked acts)) (last ∙ sym (zero-add (length list)))
      ∙ sym (asks-push asked 0 list acts);
  makes = λ want. adds.makes want ∙ ap (λ b. b || is_made (made acts) want) (are.makes want)
      ∙ sym (list_any-append (is_same_want want) (flat_map made list) (made acts))
      ∙ ap (λ all. is_made all want) (sym (flat-push made list acts));
}

-- ---- the first open ask of a list

pub open-first : (asked made : Acts → List Want) (wanted : Wanted) (list : List Acts) → AreWantsOf asked made wanted list
    → first_open wanted ≡ position (λ acts. list_any (λ want. not (is_made (flat_map made list) want)) (asked acts)) list
open-first asked made wanted list are =
    ap (λ asks. option_map (λ ask. ask.place) (find (is_open wanted.made) asks)) are.asks
    ∙ found-place asked (λ want. not (is_made wanted.made want)) 0 list
    ∙ (λ i. position_from (λ acts. list_any (λ want. not (are.makes want i)) (asked acts)) 0 list)
    ∙ sym (position_from-zero (λ acts. list_any (λ want. not (is_made (flat_map made list) want)) (asked acts)) list)
