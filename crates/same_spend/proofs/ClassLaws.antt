-- Classes by what is told of shapes are those of the bundle, where what is told is so.
use Rattle.std.proofs.Common.{◌≡◌, ℕ, ⊎_elim, suc, ◌+◌, ◌<◌, ◌≤◌, ◌==◌, ◌&&◌, Bool, true, false, cond, not, nat_lt, if◌then◌else◌, is_ok, Option, Some, None, Result, Ok, Err, IfOk, List, [], ◌∷◌, length, map, get_or, refl, ap, sym, ◌∙◌, arith}
use Rattle.std.specs.Prelude.{count_by, zip}
use Rattle.std.specs.List.{list_all}
use Rattle.std.proofs.lemmas.List.Sums.{get_or-le-sum_by}
use Rattle.std.proofs.lemmas.List.Folds.{fold-map, list_all-map}
use Rattle.std.proofs.lemmas.Bool.{cases_lt, eq-eqb, ne_eqb, lt-ltb, le-ltb}
use Rattle.clvm_spec.specs.Outcomes.{Outcome, Done, Failed, Spent, Wide}
use Rattle.clvm_spec.specs.Tree.{Tree}
use Rattle.clvm_spec.specs.Spelled.{spelled_tree}
use Rattle.clvm_spec.specs.Evaluation.{run_cost, run_outcome, fuel_of}
use Rattle.cond_spec.specs.declared.condition.Condition.{Condition}
use Rattle.std.proofs.lemmas.Result.{IfOk-weaker}
use Rattle.coin_facts.specs.declared.hash32.Hash32.{Hash32}
use Rattle.coin_facts.specs.IdLists.{is_same_id}
use Rattle.block_spec.specs.declared.spend.Spend.{Spend}
use Rattle.block_spec.specs.declared.bundle.Bundle.{Bundle}
use Rattle.cond_spec.specs.Conditions.{Listing, Lists, MalformedAt, UnknownAt, conditions_of, cost_of_conditions}
use Rattle.cond_spec.specs.ActRules.{same_output, wrong_own_fact}
use Rattle.judge_spec.specs.declared.class.Class.{Class}
use Rattle.judge_spec.specs.declared.class.Class.TheVariants.{Forward}
use Rattle.judge_spec.specs.declared.limits.Limits.{Limits}
use Rattle.judge_spec.specs.Facts.{Facts, Breach, OtherPuzzle, SameOutput, OwnFact, acts_of, unless_at, of_listing, of_run, run_of, has_its_puzzle, facts_of}
use Rattle.judge_spec.specs.JudgeLaws.{AreFound}
use Rattle.judge_spec.specs.Judgement.{spends_in}
use Rattle.pool_spec.specs.Shape.{shape_of, listed, conditions_in, run_conditions}
use Rattle.pool_spec.specs.Classes.{is_alone, has_shape, is_forward, class_by_run, class_of, classes_of}
use Rattle.same_spend.specs.Marks.{times, has_lone_shape, forwards}
use Rattle.same_spend.specs.Told.{puzzle_hashes, class_if, facts_class_if, classes_told, facts_classes_told, AreShapes, AreClasses, AreClassesOfFacts}
use Rattle.same_spend.proofs.MarkLaws.{is-same}

-- ---- lists

pub zip-map : {A B : Type 0} (f : A → B) (xs : List A) → zip xs (map f xs) ≡ map (λ x. (x, f x)) xs
zip-map f [] = refl
zip-map f (x ∷ xs) = ap (λ l. (x, f x) ∷ l) (zip-map f xs)

zip-maps : {A B C : Type 0} (f : A → B) (g : A → C) (xs : List A) → zip (map f xs) (map g xs) ≡ map (λ x. (f x, g x)) xs
zip-maps f g [] = refl
zip-maps f g (x ∷ xs) = ap (λ l. (f x, g x) ∷ l) (zip-maps f g xs)

map-map : {A B C : Type 0} (f : B → C) (g : A → B) (xs : List A) → map f (map g xs) ≡ map (λ x. f (g x)) xs
map-map f g [] = refl
map-map f g (x ∷ xs) = ap (λ l. f (g x) ∷ l) (map-map f g xs)

maps-at : {A B : Type 0} (f g : A → B) (xs : List A) → ((k : ℕ) (d : A) → k < length xs → f (get_or xs k d) ≡ g (get_or xs k d)) → map f xs ≡ map g xs
maps-at f g [] same = refl
maps-at f g (x ∷ xs) same =
    let first : f x ≡ g x = same 0 x (omega arith) in
    let others : map f xs ≡ map g xs = maps-at f g xs (λ k d h. same (suc k) d (omega arith)) in
    (λ i. first i ∷ others i)

-- ---- a puzzle hash that no other spend has

and-false : (b : Bool) → (b && false) ≡ false
and-false true = refl
and-false false = refl

once : (n : ℕ) (b : Bool) → 1 ≤ n → (b && not (nat_lt 1 n)) ≡ ((n == 1) && b)
once n true h =
    ⊎_elim (λ (more : 1 < n). ap not (lt-ltb 1 n more) ∙ sym (ap (λ c. c && true) (ne_eqb n 1 (λ e. omega (arith, e)))))
    (λ (few : n ≤ 1). ap not (le-ltb 1 n few) ∙ sym (ap (λ c. c && true) (eq-eqb n 1 (omega (arith, few, h)))))
    (cases_lt 1 n)
once n false h = sym (and-false (n == 1))

times-of : (spends : List Spend) (spend : Spend) → times (puzzle_hashes spends) spend.coin.puzzle_hash ≡ count_by (λ other. is_same_id other.coin.puzzle_hash spend.coin.puzzle_hash) spends
times-of spends spend =
    fold-map (λ (n : ℕ) (hash : Hash32). n + cond (is_same_id hash spend.coin.puzzle_hash) 1 0) (λ (other : Spend). other.coin.puzzle_hash) 0 spends

lone-at : (limits : Limits) (spends : List Spend) (k : ℕ) (d : Spend) → k < length spends
    → has_lone_shape (puzzle_hashes spends) ((get_or spends k d).coin.puzzle_hash, is_ok (shape_of limits.max_cost limits.singleton (get_or spends k d))) ≡ has_shape limits spends (get_or spends k d)
lone-at limits spends k d h =
    let spend = get_or spends k d in
    let b = is_ok (shape_of limits.max_cost limits.singleton spend) in
    let n = count_by (λ other. is_same_id other.coin.puzzle_hash spend.coin.puzzle_hash) spends in
    let counts : Spend → ℕ = λ other. cond (is_same_id other.coin.puzzle_hash spend.coin.puzzle_hash) 1 0 in
    let there : counts spend ≤ n = get_or-le-sum_by counts spends k d h in
    let one : counts spend ≡ 1 = ap (λ (c : Bool). cond c 1 0) (is-same spend.coin.puzzle_hash) in
    ap (λ m. b && not (nat_lt 1 m)) (times-of spends spend) ∙ once n b (omega (arith, there, one))

lone-is : (limits : Limits) (spends : List Spend) (shaped : List Bool) → AreShapes limits spends shaped
    → map (has_lone_shape (puzzle_hashes spends)) (zip (puzzle_hashes spends) shaped) ≡ map (has_shape limits spends) spends
lone-is limits spends shaped are =
    let shape = λ (spend : Spend). is_ok (shape_of limits.max_cost limits.singleton spend) in
    ap (λ told. map (has_lone_shape (puzzle_hashes spends)) (zip (puzzle_hashes spends) told)) are
    ∙ ap (map (has_lone_shape (puzzle_hashes spends))) (zip-maps (λ (spend : Spend). spend.coin.puzzle_hash) shape spends)
    ∙ map-map {B = Hash32 × Bool} (has_lone_shape (puzzle_hashes spends)) (λ (spend : Spend). (spend.coin.puzzle_hash, shape spend)) spends
    ∙ maps-at (λ (spend : Spend). has_lone_shape (puzzle_hashes spends) (spend.coin.puzzle_hash, shape spend)) (has_shape limits spends) spends (lone-at limits spends)

forwards-are : (limits : Limits) (spends : List Spend) (shaped : List Bool) → AreShapes limits spends shaped
    → forwards (puzzle_hashes spends) shaped ≡ map (is_forward limits spends) spends
forwards-are limits spends shaped are =
    ap (λ (lone : List Bool). map (λ (is_lone : Bool). is_lone && not (list_all (λ (other : Bool). other) lone)) lone) (lone-is limits spends shaped are)
    ∙ ap (λ (all : Bool). map (λ (is_lone : Bool). is_lone && not all) (map (has_shape limits spends) spends)) (list_all-map (λ (other : Bool). other) (has_shape limits spends) spends)
    ∙ map-map (λ (is_lone : Bool). is_lone && not (list_all (has_shape limits spends) spends)) (has_shape limits spends) spends

-- ---- classes

class-is : (limits : Limits) (spends : List Spend) (spend : Spend) → class_if limits.max_cost (spend, is_forward limits spends spend) ≡ class_of limits spends spend
unfolding class_of
class-is limits spends spend = refl

pub told-are : (limit : ℕ) (bundle : Bundle) (shaped : List Bool) (classes : List Class) → classes ≡ classes_told limit bundle.spends shaped → AreClasses limit bundle shaped classes
told-are limit bundle shaped classes is limits same are =
    let spends = bundle.spends in
    is ∙ ap (λ l. classes_told l spends shaped) (sym same)
    ∙ ap (λ marks. map (class_if limits.max_cost) (zip spends marks)) (forwards-are limits spends shaped are)
    ∙ ap (map (class_if limits.max_cost)) (zip-map (is_forward limits spends) spends)
    ∙ map-map {B = Spend × Bool} (class_if limits.max_cost) (λ (spend : Spend). (spend, is_forward limits spends spend)) spends
    ∙ maps-at (λ (spend : Spend). class_if limits.max_cost (spend, is_forward limits spends spend)) (class_of limits spends) spends
    (λ k d h. class-is limits spends (get_or spends k d))

-- ---- by facts

consistent-is : (found facts : Facts) (a b : Option ℕ) → unless_at SameOutput a (unless_at OwnFact b (Ok found)) ≡ Ok facts → found ≡ facts
consistent-is found facts None None e = cc
consistent-is found facts None (Some n) e = cc
consistent-is found facts (Some n) b e = cc

by-listing : (spend : Spend) (cost : ℕ) (facts : Facts) (listing : Listing) → of_listing spend cost listing ≡ Ok facts → listed listing ≡ Some facts.conditions
by-listing spend cost facts (Lists conditions) e =
    let found : Facts = record { spend = spend; cost = cost + cost_of_conditions conditions; conditions = conditions } in
    ap (λ f. Some f.conditions) (consistent-is found facts (same_output (acts_of found)) (wrong_own_fact (acts_of found)) e)
by-listing spend cost facts (MalformedAt place) e = cc
by-listing spend cost facts (UnknownAt place) e = cc

by-outcome : (limit : ℕ) (spend : Spend) (facts : Facts) (outcome : Outcome) → of_run limit spend outcome ≡ Ok facts → conditions_in outcome ≡ Some facts.conditions
by-outcome limit spend facts (Done value left) e = by-listing spend (run_cost (fuel_of limit) left) facts (conditions_of value) e
by-outcome limit spend facts (Failed why form) e = cc
by-outcome limit spend facts (Spent which) e = cc
by-outcome limit spend facts Wide e = cc

by-puzzle : (own : Bool) (found : Result Facts Breach) (facts : Facts) → (if own then found else Err OtherPuzzle) ≡ Ok facts → found ≡ Ok facts
by-puzzle true found facts e = e
by-puzzle false found facts e = cc

found-run : (limit : ℕ) (spend : Spend) (facts : Facts) → facts_of limit spend ≡ Ok facts → run_conditions limit spend ≡ Some facts.conditions
unfolding facts_of
found-run limit spend facts e =
    by-outcome limit spend facts (run_of limit spend) (by-puzzle (has_its_puzzle spend) (of_run limit spend (run_of limit spend)) facts e)

class-of-facts : (limits : Limits) (spends : List Spend) (facts : Facts) → facts_of limits.max_cost facts.spend ≡ Ok facts
    → facts_class_if (facts, is_forward limits spends facts.spend) ≡ class_of limits spends facts.spend
class-of-facts limits spends facts found =
    ap (λ run. if is_forward limits spends facts.spend then Forward else class_by_run run) (sym (found-run limits.max_cost facts.spend facts found))
    ∙ class-is limits spends facts.spend

classes-of-facts : (limits : Limits) (spends : List Spend) (list : List Facts) → AreFound limits.max_cost list
    → map (λ facts. facts_class_if (facts, is_forward limits spends facts.spend)) list ≡ map (class_of limits spends) (spends_in list)
classes-of-facts limits spends [] found = refl
classes-of-facts limits spends (facts ∷ list) found =
    (λ i. class-of-facts limits spends facts found.0 i ∷ classes-of-facts limits spends list found.1 i)

pub facts-told-are : (list : List Facts) (shaped : List Bool) (classes : List Class) → classes ≡ facts_classes_told list shaped → AreClassesOfFacts list shaped classes
facts-told-are list shaped classes is limits bundle these found are =
    let spends = spends_in list in
    is
    ∙ ap (λ hashes. map facts_class_if (zip list (forwards hashes shaped))) (sym (map-map (λ (spend : Spend). spend.coin.puzzle_hash) (λ (facts : Facts). facts.spend) list))
    ∙ ap (λ marks. map facts_class_if (zip list marks)) (forwards-are limits spends shaped (are ∙ ap (map (λ (spend : Spend). is_ok (shape_of limits.max_cost limits.singleton spend))) these))
    ∙ ap (λ marks. map facts_class_if (zip list marks)) (map-map (is_forward limits spends) (λ (facts : Facts). facts.spend) list)
    ∙ ap (map facts_class_if) (zip-map (λ (facts : Facts). is_forward limits spends facts.spend) list)
    ∙ map-map {B = Facts × Bool} facts_class_if (λ (facts : Facts). (facts, is_forward limits spends facts.spend)) list
    ∙ classes-of-facts limits spends list found
    ∙ ap (λ (all : List Spend). map (class_of limits all) all) (sym these)

-- the conditions of a run, by the trees that are read
pub run-read : {E : Type 0} (limit : ℕ) (spend : Spend) (program env : Tree) (result : Result (Option (List Condition)) E)
    → program ≡ spelled_tree spend.puzzle → env ≡ spelled_tree spend.solution
    → IfOk result (λ found. found ≡ conditions_in (run_outcome program env (fuel_of limit))) → IfOk result (λ found. found ≡ run_conditions limit spend)
run-read limit spend program env result p e ok =
    IfOk-weaker result (λ found. found ≡ conditions_in (run_outcome program env (fuel_of limit))) (λ found. found ≡ run_conditions limit spend)
    (λ found is. is ∙ (λ i. conditions_in (run_outcome (p i) (e i) (fuel_of limit)))) ok
