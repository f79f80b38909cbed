-- Which bundles of the pool a new one conflicts with, and whether it may replace them. Source: Chia documentation of the
-- mempool; the classes of spends that go together, the numbers and the places are this project's own.
use Rattle.std.specs.Prelude.{ℕ, suc, ◌+◌, ◌&&◌, List, [], ◌∷◌, map, filter, zip, nat_le, position, Bool, true, false, not, Option, None, if◌then◌else◌}
use Rattle.std.specs.List.{list_any, list_all}
use Rattle.std.specs.Option.{option_or}
use Rattle.std.specs.Str.{bytes_eq}
use Rattle.coin_facts.specs.declared.hash32.Hash32.{Hash32}
use Rattle.coin_facts.specs.IdLists.{is_same_id, is_among}
use Rattle.block_spec.specs.declared.spend.Spend.{Spend}
use Rattle.judge_spec.specs.declared.class.Class.{Class}
use Rattle.judge_spec.specs.declared.class.Class.TheVariants.{Same, Forward}
use Rattle.judge_spec.specs.declared.rule.Rule.TheVariants.{LeavesCoins, LowerRate, SmallRaise}
use Rattle.judge_spec.specs.Facts.{Facts}
use Rattle.judge_spec.specs.Checks.{id_of}
use Rattle.pool_spec.specs.declared.limits.TheConstants.{LEAST_RAISE}
use Rattle.pool_spec.specs.Prices.{Refusal, refusal_at, Priced, fees_of, costs_of, is_higher_rate}

-- ---- conflict

abbrev pub has_same_codes : Spend → Spend → Bool
has_same_codes one other = bytes_eq one.puzzle other.puzzle && bytes_eq one.solution other.solution

-- Two spends of one coin go together where both are Forward, or both are Same with equal puzzle and solution.
abbrev pub go_together : Class → Class → Spend → Spend → Bool
go_together Forward Forward one other = true
go_together Same Same one other = has_same_codes one other
go_together _ _ one other = false

abbrev pub clash : Facts × Class → Facts × Class → Bool
clash one other =
    is_same_id (id_of one.0) (id_of other.0) && not (go_together one.1 other.1 (one.0).spend (other.0).spend)

abbrev pub fit_with_classes : Priced → List (Facts × Class)
fit_with_classes item = zip item.fit item.classes

-- Two bundles conflict where their fits have two spends of one coin that don't go together.
abbrev pub do_conflict : Priced → Priced → Bool
do_conflict new item = list_any (λ one. list_any (clash one) (fit_with_classes item)) (fit_with_classes new)

abbrev pub places_where : {A : Type 0} → (A → Bool) → ℕ → List A → List ℕ
places_where test place [] = []
places_where test place (x ∷ xs) =
    if test x then place ∷ places_where test (suc place) xs else places_where test (suc place) xs

-- the places in the pool of the bundles that a new one conflicts with
abbrev pub conflicts : Priced → List Priced → List ℕ
conflicts new items = places_where (do_conflict new) 0 items

-- ---- replacement

-- the bundles that it conflicts with, and the others
abbrev pub replaced_by : Priced → List Priced → List Priced
replaced_by new items = filter (do_conflict new) items

abbrev pub kept_by : Priced → List Priced → List Priced
kept_by new items = filter (λ item. not (do_conflict new item)) items

abbrev pub fit_ids : Priced → List Hash32
fit_ids item = map id_of item.fit

abbrev pub covers : Priced → Priced → Bool
covers new item = list_all (is_among (fit_ids new)) (fit_ids item)

-- Rule 31: the new bundle's fit doesn't spend all coins that a conflicting bundle's fit spends; at the first such bundle.
abbrev pub left_coins : Priced → List Priced → Option ℕ
left_coins new items = position (λ item. do_conflict new item && not (covers new item)) items

-- nothing where a test holds, else the place of the first conflicting bundle, if there is one
abbrev pub first_conflict_unless : Bool → Priced → List Priced → Option ℕ
first_conflict_unless holds new items = if holds then None else position (do_conflict new) items

-- Rule 32: the new fee per cost isn't higher than the conflicting fees together per their costs together.
abbrev pub lower_rate : Priced → List Priced → Option ℕ
lower_rate new items =
    let replaced = replaced_by new items in
    first_conflict_unless (is_higher_rate new.fee new.cost (fees_of replaced) (costs_of replaced)) new items

-- Rule 33: the new fee isn't at least 10,000,000 more than the conflicting fees together.
abbrev pub small_raise : Priced → List Priced → Option ℕ
small_raise new items = first_conflict_unless (nat_le (fees_of (replaced_by new items) + LEAST_RAISE) new.fee) new items

-- the first that is broken of the rules 31 to 33
abbrev pub unreplaced : Priced → List Priced → Option Refusal
unreplaced new items =
    option_or (refusal_at LeavesCoins (left_coins new items))
    (option_or (refusal_at LowerRate (lower_rate new items)) (refusal_at SmallRaise (small_raise new items)))
