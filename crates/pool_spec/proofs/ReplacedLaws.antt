-- What an admission changes.
use Rattle.std.proofs.Common.{◌≡◌, inl, inr, Bool, true, false, not, cond, if◌then◌else◌, Option, Some, None, Result, Ok, Err, List, [], ◌∷◌, ◌++◌, refl, ap, sym, ◌∙◌, subst}
use Rattle.std.specs.Prelude.{filter, filter_map, nat_lt, ◌+◌}
use Rattle.std.specs.List.{cons_option, AllByRecursion}
use Rattle.block_spec.specs.declared.bundle.Bundle.{Bundle}
use Rattle.block_spec.specs.BundleTree.{bundle_id}
use Rattle.chain_spec.specs.Chain.{Ledger, ledger_of}
use Rattle.judge_spec.specs.declared.limits.Limits.{Limits}
use Rattle.judge_spec.specs.declared.rule.Rule.TheVariants.{NoSpend, InPool, PoolIsFull}
use Rattle.pool_spec.specs.Prices.{Refusal, refusal, refusal_at, if_found, Priced, priced, bundles_of, costs_of}
use Rattle.pool_spec.specs.Replacement.{do_conflict, replaced_by, kept_by, unreplaced}
use Rattle.pool_spec.specs.Pool.{PoolState, priced_in, AdmittedView, Admission, Admits, Refuses, unless_refused, where_ok, in_pool, no_spend, with_room, told_of, entered, admission}
use Rattle.pool_spec.specs.PoolLaws.{AllArePriced, StayingArePriced, AdmittedArePriced, IsMerged, ReplacedAreOthers}
use Rattle.pool_spec.proofs.PriceLaws.{inside, priced-is-fine}

not-refused : (broken : Option Refusal) (found : Admission) (told : AdmittedView) (next : PoolState) → unless_refused broken found ≡ Admits told next → found ≡ Admits told next
not-refused None found told next e = e
not-refused (Some refusal) found told next e = cc

ok-admits : {A : Type 0} (found : Result A Refusal) (go : A → Admission) (told : AdmittedView) (next : PoolState) → where_ok found go ≡ Admits told next
    → (x : A) × (found ≡ Ok x) × (go x ≡ Admits told next)
ok-admits (Ok x) go told next e = (x, refl, e)
ok-admits (Err refusal) go told next e = cc

room-is-rest : (limits : Limits) (rest : List Priced) (new : Priced) (stays : List Priced) → with_room limits rest new ≡ Ok stays → rest ≡ stays
room-is-rest limits rest new stays e = by_cost (nat_lt limits.pool_cost (costs_of rest + new.cost)) e
  where
    by_cost : (over : Bool) → (if over then Err (refusal PoolIsFull 0) else Ok rest) ≡ Ok stays → rest ≡ stays
    by_cost true e = cc
    by_cost false e = inside rest stays e

admits-apart : (told other : AdmittedView) (next after : PoolState) → Admits told next ≡ Admits other after → (told ≡ other) × (next ≡ after)
admits-apart told other next after e = (ap view_in e, ap state_in e)
  where
    view_in : Admission → AdmittedView
    view_in (Admits view state) = view
    view_in (Refuses refusal) = told

    state_in : Admission → PoolState
    state_in (Admits view state) = state
    state_in (Refuses refusal) = next

-- a list is made of what a test lets through and of the others
merged : (test : Priced → Bool) (items : List Priced) → IsMerged (bundles_of (filter test items)) (bundles_of (filter (λ item. not (test item)) items)) (bundles_of items)
merged test [] = (refl, refl)
merged test (item ∷ items) = by_test (test item) (merged test items)
  where
    by_test : (passes : Bool) → IsMerged (bundles_of (filter test items)) (bundles_of (filter (λ item. not (test item)) items)) (bundles_of items)
        → IsMerged (bundles_of (cond passes (item ∷ filter test items) (filter test items)))
        (bundles_of (cond (not passes) (item ∷ filter (λ item. not (test item)) items) (filter (λ item. not (test item)) items))) (item.bundle ∷ bundles_of items)
    by_test true more = inl (bundles_of (filter test items), refl, more)
    by_test false more = inr (bundles_of (filter (λ item. not (test item)) items), refl, more)

all-priced : (limits : Limits) (ledger : Ledger) (bundles : List Bundle) → AllByRecursion (λ bundle. (item : Priced) × (priced limits ledger bundle ≡ Ok item)) bundles
    → bundles_of (filter_map (λ bundle. if_found (priced limits ledger bundle)) bundles) ≡ bundles
all-priced limits ledger [] all = refl
all-priced limits ledger (bundle ∷ bundles) all =
    let item = all.0.0 in
    ap (λ found. bundles_of (cons_option (if_found found) (filter_map (λ bundle. if_found (priced limits ledger bundle)) bundles))) all.0.1
    ∙ (λ j. (priced-is-fine limits ledger bundle item all.0.1).itself j ∷ all-priced limits ledger bundles all.1 j)

entered-as : (state : PoolState) (rest stays : List Priced) (new : Priced) (bundle : Bundle) → rest ≡ stays → new.bundle ≡ bundle
    → entered state stays new ≡ record state { bundles = bundles_of rest ++ bundle ∷ [] }
entered-as state rest stays new bundle same is = λ j. record state { bundles = bundles_of (sym same j) ++ is j ∷ [] }

pub replaced-are-others : ReplacedAreOthers
unfolding admission
replaced-are-others state bundle told next all e =
    let items = priced_in state in
    let ledger = ledger_of state.chain in
    let enters : Priced → Admission =
    λ new. unless_refused (unreplaced new items) (where_ok (with_room state.limits (kept_by new items) new) (λ rest. Admits (told_of new items) (entered state rest new))) in
    let spends = not-refused (refusal_at InPool (in_pool state bundle)) (unless_refused (refusal_at NoSpend (no_spend bundle)) (where_ok (priced state.limits ledger bundle) enters)) told next e in
    let price = ok-admits (priced state.limits ledger bundle) enters told next (not-refused (refusal_at NoSpend (no_spend bundle)) (where_ok (priced state.limits ledger bundle) enters) told next spends) in
    let new = price.0 in
    let fits = not-refused (unreplaced new items) (where_ok (with_room state.limits (kept_by new items) new) (λ rest. Admits (told_of new items) (entered state rest new))) told next price.2 in
    let room = ok-admits (with_room state.limits (kept_by new items) new) (λ rest. Admits (told_of new items) (entered state rest new)) told next fits in
    let rest = room-is-rest state.limits (kept_by new items) new room.0 room.1 in
    let same = admits-apart (told_of new items) told (entered state room.0 new) next room.2 in
    let bundle_is = (priced-is-fine state.limits ledger bundle new price.1).itself in
    record {
      item = new;
      price = price.1;
      told_fee = ap (λ view. view.fee) (sym same.0);
      told_cost = ap (λ view. view.cost) (sym same.0);
      replaced = bundles_of (replaced_by new items);
      rest = bundles_of (kept_by new items);
      told_ids = ap (λ view. view.replaced) (sym same.0);
      told_id = ap (λ view. view.id) (sym same.0) ∙ ap bundle_id bundle_is;
      after = sym same.1 ∙ entered-as state (kept_by new items) room.0 new bundle rest bundle_is;
      others = subst (IsMerged (bundles_of (replaced_by new items)) (bundles_of (kept_by new items))) (all-priced state.limits ledger state.bundles all) (merged (do_conflict new) items);
    }

-- ---- every bundle has a price

staying : (limits : Limits) (ledger : Ledger) (bundles : List Bundle)
    → AllByRecursion (λ bundle. (item : Priced) × (priced limits ledger bundle ≡ Ok item)) (bundles_of (filter_map (λ bundle. if_found (priced limits ledger bundle)) bundles))
staying limits ledger [] = tt
staying limits ledger (bundle ∷ bundles) = by_price (priced limits ledger bundle) refl (staying limits ledger bundles)
  where
    by_price : (found : Result Priced Refusal) → priced limits ledger bundle ≡ found
        → AllByRecursion (λ bundle. (item : Priced) × (priced limits ledger bundle ≡ Ok item)) (bundles_of (filter_map (λ bundle. if_found (priced limits ledger bundle)) bundles))
        → AllByRecursion (λ bundle. (item : Priced) × (priced limits ledger bundle ≡ Ok item)) (bundles_of (cons_option (if_found found) (filter_map (λ bundle. if_found (priced limits ledger bundle)) bundles)))
    by_price (Ok item) is more = ((item, ap (priced limits ledger) (priced-is-fine limits ledger bundle item is).itself ∙ is), more)
    by_price (Err refusal) is more = more

pub staying-are-priced : StayingArePriced
staying-are-priced state = staying state.limits (ledger_of state.chain) state.bundles

-- what holds of a merged list holds of its second part
of-part : (P : Bundle → Type 0) (xs ys zs : List Bundle) → IsMerged xs ys zs → AllByRecursion P zs → AllByRecursion P ys
of-part P xs ys [] is all = subst (AllByRecursion P) (sym is.1) tt
of-part P xs ys (z ∷ zs) (inl is) all = of-part P is.0 ys zs is.2 all.1
of-part P xs ys (z ∷ zs) (inr is) all = subst (AllByRecursion P) (sym is.1) (all.0, of-part P xs is.0 zs is.2 all.1)

with-last : (P : Bundle → Type 0) (ys : List Bundle) (last : Bundle) → AllByRecursion P ys → P last → AllByRecursion P (ys ++ last ∷ [])
with-last P [] last all is = (is, tt)
with-last P (y ∷ ys) last all is = (all.0, with-last P ys last all.1 is)

pub admitted-are-priced : AdmittedArePriced
admitted-are-priced state bundle told next all e =
    let has = replaced-are-others state bundle told next all e in
    let HasPrice : Bundle → Type 0 = λ bundle. (item : Priced) × (priced state.limits (ledger_of state.chain) bundle ≡ Ok item) in
    subst AllArePriced (sym has.after)
    (with-last HasPrice has.rest bundle (of-part HasPrice has.replaced has.rest state.bundles has.others all) (has.item, has.price))
