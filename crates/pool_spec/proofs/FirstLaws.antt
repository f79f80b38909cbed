-- A payment's spends are never moved, so its admission to an empty pool is the first form's.
use Rattle.std.proofs.Common.{◌≡◌, ℕ, ◌+◌, ◌==◌, Bool, true, false, not, ◌&&◌, nat_lt, if◌then◌else◌, Option, Some, None, Ok, Err, List, [], ◌∷◌, length, map, refl, ap, sym, ◌∙◌, subst, arith}
use Rattle.std.specs.Prelude.{is_ok, is_some, option_and_then, nat_le}
use Rattle.std.specs.Option.{option_or}
use Rattle.pool_spec.specs.declared.limits.TheConstants.{LEAST_RAISE}
use Rattle.std.specs.List.{list_any, list_all}
use Rattle.std.proofs.lemmas.Bool.{eqb-true}
use Rattle.std.proofs.lemmas.Bool.Decides.{nat_tests}
use Rattle.clvm_spec.specs.declared.op_codes.TheConstants.{QUOTE, APPLY}
use Rattle.clvm_spec.specs.Tree.{Tree, Atom, Pair}
use Rattle.clvm_spec.specs.Evaluation.{is_code}
use Rattle.clvm_spec.specs.Spelled.{spelled_tree}
use Rattle.clvm_spec.specs.Currying.{environment_arguments, with_program, uncurried}
use Rattle.coin_facts.specs.declared.hash32.Hash32.{Hash32}
use Rattle.coin_facts.specs.Steps.{when}
use Rattle.block_spec.specs.declared.spend.Spend.{Spend}
use Rattle.block_spec.specs.declared.bundle.Bundle.{Bundle}
use Rattle.block_spec.specs.BundleTree.{bundle_id}
use Rattle.chain_spec.specs.Chain.{Ledger, Chain, is_in_chain, ledger_of}
use Rattle.cond_spec.specs.declared.condition.Condition.{Condition}
use Rattle.judge_spec.specs.declared.class.Class.{Class}
use Rattle.judge_spec.specs.declared.class.Class.TheVariants.{Plain, Same, Forward}
use Rattle.judge_spec.specs.declared.limits.Limits.{Limits}
use Rattle.judge_spec.specs.declared.rule.Rule.TheVariants.{NoSpend, LowerRate, SmallRaise, PoolIsFull}
use Rattle.judge_spec.specs.Rules.{number_of}
use Rattle.judge_spec.specs.Facts.{Facts}
use Rattle.judge_spec.specs.Judgement.{Verdict, Fine, Broken, terms_of, judgement}
use Rattle.pool_spec.specs.Shape.{layer_of_two, where_found, shape_by_layer, shape_of, run_conditions}
use Rattle.pool_spec.specs.Classes.{is_alone, has_shape, is_forward, wants_signature, class_by_run, class_of, classes_of}
use Rattle.pool_spec.specs.Fit.{Taken, nothing_taken, fit_by_class, fit_of}
use Rattle.pool_spec.specs.Prices.{refusal, refusal_at, Priced, price_by, facts_in, priced, is_higher_rate}
use Rattle.pool_spec.specs.Replacement.{unreplaced}
use Rattle.pool_spec.specs.Pool.{PoolState, Admission, Admits, unless_refused, where_ok, no_spend, with_room, told_of, entered, admission}
use Rattle.pool_spec.specs.Payment.{are_triples, pays, creates_each_once, is_payment}
use Rattle.pool_spec.specs.FirstConditions.{conditions_of}
use Rattle.pool_spec.specs.FirstJudgement.{created_ids, created_amounts, spent_amounts}
use Rattle.pool_spec.specs.FirstAdmission.{Admitted, Refused, admission_by, first_admission}
use Rattle.pool_spec.specs.FirstLaws.{whole_answer, FirstIsWhole}

-- ---- a puzzle that pays isn't curried

front : (x y : Bool) → (x && y) ≡ true → x ≡ true
front true y e = refl
front false y e = cc

back : (x y : Bool) → (x && y) ≡ true → y ≡ true
back true y e = e
back false y e = cc

first-and-third : (a b c d e f : Bool) → (a && b && c && d && e && f) ≡ true → (a ≡ true) × (c ≡ true)
first-and-third a b c d e f h =
    let three = front (a && b && c) d (front (a && b && c && d) e (front (a && b && c && d && e) f h)) in
    (front a b (front (a && b) c three), back (a && b) c three)

not-apply : (first : Tree) → is_code 1 first ≡ true → is_code APPLY first ≡ false
not-apply (Atom []) e = cc
not-apply (Atom (b ∷ [])) e = ap (λ b. b == APPLY) (eqb-true b 1 e)
not-apply (Atom (b ∷ c ∷ more)) e = cc
not-apply (Pair x y) e = cc

no-parts-of : (a value : Tree) → is_code APPLY a ≡ false → uncurried (Pair a value) ≡ None
no-parts-of a (Atom bytes) e = refl
no-parts-of a (Pair (Atom bytes) rest) e = refl
no-parts-of a (Pair (Pair q program) (Atom bytes)) e = refl
no-parts-of a (Pair (Pair q program) (Pair environment (Pair x y))) e = refl
no-parts-of a (Pair (Pair q program) (Pair environment (Atom (b ∷ bytes)))) e = refl
no-parts-of a (Pair (Pair q program) (Pair environment (Atom []))) e =
    ap (λ b. if b && is_code QUOTE q then with_program program (environment_arguments environment) else None) e

no-parts : (puzzle : Tree) → pays puzzle ≡ true → uncurried puzzle ≡ None
no-parts (Atom bytes) e = cc
no-parts (Pair first value) e =
    let quotes = front (is_code 1 first) (is_some (conditions_of value)) (front (is_code 1 first && is_some (conditions_of value)) (are_triples value) e) in
    no-parts-of first value (not-apply first quotes)

-- ---- so it is never Forward, and stays as it is

no-shape : (limit : ℕ) (singleton : Hash32) (spend : Spend) → pays (spelled_tree spend.puzzle) ≡ true → is_ok (shape_of limit singleton spend) ≡ false
unfolding shape_of
no-shape limit singleton spend e =
    ap (λ parts. is_ok (where_found 1 (option_and_then (λ parts. layer_of_two parts.program parts.arguments) parts) (shape_by_layer limit singleton spend)))
    (no-parts (spelled_tree spend.puzzle) e)

stays : (limits : Limits) (ledger : Ledger) (taken : Taken) (spend : Spend) (found : Option (List Condition)) → fit_by_class limits ledger taken (class_by_run found) spend ≡ spend
stays limits ledger taken spend None = refl
stays limits ledger taken spend (Some conditions) = by_signature (list_any wants_signature conditions)
  where
    by_signature : (wants : Bool) → fit_by_class limits ledger taken (if wants then Plain else Same) spend ≡ spend
    by_signature true = refl
    by_signature false = refl

none : (x z : Bool) → ((x && false) && z) ≡ false
none true z = refl
none false z = refl

not-forward : (limits : Limits) (spends : List Spend) (spend : Spend) → pays (spelled_tree spend.puzzle) ≡ true → is_forward limits spends spend ≡ false
not-forward limits spends spend e =
    ap (λ shape. (is_alone spends spend && shape) && not (list_all (has_shape limits spends) spends)) (no-shape limits.max_cost limits.singleton spend e)
    ∙ none (is_alone spends spend) (not (list_all (has_shape limits spends) spends))

same-spend : (limits : Limits) (ledger : Ledger) (taken : Taken) (spends : List Spend) (spend : Spend) → pays (spelled_tree spend.puzzle) ≡ true
    → fit_by_class limits ledger taken (class_of limits spends spend) spend ≡ spend
unfolding class_of
same-spend limits ledger taken spends spend e =
    ap (λ forward. fit_by_class limits ledger taken (if forward then Forward else class_by_run (run_conditions limits.max_cost spend)) spend) (not-forward limits spends spend e)
    ∙ stays limits ledger taken spend (run_conditions limits.max_cost spend)

same-spends : (limits : Limits) (ledger : Ledger) (taken : Taken) (all spends : List Spend) → list_all (λ spend. pays (spelled_tree spend.puzzle)) spends ≡ true
    → map (λ spend. fit_by_class limits ledger taken (class_of limits all spend) spend) spends ≡ spends
same-spends limits ledger taken all [] e = refl
same-spends limits ledger taken all (spend ∷ spends) e = λ j.
    same-spend limits ledger taken all spend (front (pays (spelled_tree spend.puzzle)) (list_all (λ spend. pays (spelled_tree spend.puzzle)) spends) e) j
    ∷ same-spends limits ledger taken all spends (back (pays (spelled_tree spend.puzzle)) (list_all (λ spend. pays (spelled_tree spend.puzzle)) spends) e) j

same-fit : (limits : Limits) (ledger : Ledger) (bundle : Bundle) → list_all (λ spend. pays (spelled_tree spend.puzzle)) bundle.spends ≡ true
    → fit_of limits ledger nothing_taken bundle ≡ bundle.spends
unfolding fit_of
same-fit limits ledger bundle e = same-spends limits ledger nothing_taken bundle.spends bundle.spends e

-- ---- admission to an empty pool

fresh : Chain → Limits → PoolState
fresh chain limits = record { chain = chain; limits = limits; bundles = [] }

enters : PoolState → Priced → Admission
enters state new = unless_refused (unreplaced new []) (where_ok (with_room state.limits [] new) (λ rest. Admits (told_of new []) (entered state rest new)))

nothing-replaced : (new : Priced) → unreplaced new [] ≡ None
nothing-replaced new = by_tests (is_higher_rate new.fee new.cost 0 0) (nat_le (0 + LEAST_RAISE) new.fee)
  where
    by_tests : (higher enough : Bool) → option_or (refusal_at LowerRate (if higher then None else None)) (refusal_at SmallRaise (if enough then None else None)) ≡ None
    by_tests true true = refl
    by_tests true false = refl
    by_tests false true = refl
    by_tests false false = refl

by-verdict : (chain : Chain) (limits : Limits) (bundle : Bundle) (fit : List Facts) (classes : List Class) (verdict : Verdict)
    → where_ok (price_by bundle fit classes verdict) (enters (fresh chain limits)) ≡ whole_answer (fresh chain limits) bundle (admission_by (fresh chain limits) bundle verdict)
unfolding fresh enters
by-verdict chain limits bundle fit classes (Broken rule place) = refl
by-verdict chain limits bundle fit classes (Fine cost fee) =
    let new : Priced = record { bundle = bundle; fit = fit; classes = classes; fee = fee; cost = cost } in
    ap (λ broken. unless_refused broken (where_ok (with_room limits [] new) (λ rest. Admits (told_of new []) (entered (fresh chain limits) rest new)))) (nothing-replaced new)
    ∙ by_room (nat_lt limits.pool_cost (0 + cost))
  where
    by_room : (over : Bool) → where_ok (if over then Err (refusal PoolIsFull 0) else Ok [])
        (λ rest. Admits (told_of (record { bundle = bundle; fit = fit; classes = classes; fee = fee; cost = cost }) []) (entered (fresh chain limits) rest (record { bundle = bundle; fit = fit; classes = classes; fee = fee; cost = cost })))
        ≡ whole_answer (fresh chain limits) bundle (if over then Refused (number_of PoolIsFull) 0 else Admitted (bundle_id bundle) fee cost [])
    by_room true = refl
    by_room false = refl

some-spend : (bundle : Bundle) → nat_lt 0 (length bundle.spends) ≡ true → no_spend bundle ≡ None
some-spend bundle e = ap (λ none. when none 0) (not_zero (length bundle.spends) e)
  where
    not_zero : (n : ℕ) → nat_lt 0 n ≡ true → (n == 0) ≡ false
    not_zero n h = grind (arith, nat_tests)

to-empty : (chain : Chain) (limits : Limits) (bundle : Bundle) → is_payment chain bundle ≡ true
    → admission (fresh chain limits) bundle ≡ whole_answer (fresh chain limits) bundle (first_admission (fresh chain limits) bundle)
unfolding admission priced fresh enters
to-empty chain limits bundle e =
    let ledger = ledger_of chain in
    let terms = terms_of limits in
    let spends = bundle.spends in
    let both =
    first-and-third (nat_lt 0 (length spends)) (length bundle.attested == 0) (list_all (λ spend. pays (spelled_tree spend.puzzle)) spends) (creates_each_once spends)
    (nat_le (created_amounts spends) (spent_amounts spends)) (list_all (λ id. not (is_in_chain ledger id)) (created_ids spends)) e in
    ap (λ broken. unless_refused (refusal_at NoSpend broken) (where_ok (priced limits ledger bundle) (enters (fresh chain limits)))) (some-spend bundle both.0)
    ∙ ap (λ fit. where_ok (price_by bundle (facts_in limits.max_cost fit) (classes_of limits bundle) (judgement terms ledger fit bundle.attested)) (enters (fresh chain limits))) (same-fit limits ledger bundle both.1)
    ∙ by-verdict chain limits bundle (facts_in limits.max_cost bundle.spends) (classes_of limits bundle) (judgement terms ledger bundle.spends bundle.attested)

pub first-is-whole : FirstIsWhole
unfolding fresh
first-is-whole state bundle payment empty =
    subst (λ bundles. admission (record state { bundles = bundles }) bundle ≡ whole_answer (record state { bundles = bundles }) bundle (first_admission (record state { bundles = bundles }) bundle))
    (sym empty) (to-empty state.chain state.limits bundle payment)
