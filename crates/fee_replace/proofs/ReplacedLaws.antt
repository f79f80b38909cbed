-- The bundles that a new one conflicts with, by their places.
use Rattle.std.proofs.Common.{◌≡◌, ℕ, ◌+◌, ◌<◌, ◌≤◌, ◌&&◌, ◌||◌, Bool, true, false, not, cond, if◌then◌else◌, Option, Some, None, List, [], ◌∷◌, length, map, drop, get_or, refl, sym, ap, subst, ◌∙◌, zero-add}
use Rattle.std.specs.Prelude.{slice_get, option_map}
use Rattle.std.specs.List.{find, sum_by, list_any, list_all}
use Rattle.std.specs.Option.{option_or}
use Rattle.std.proofs.lemmas.List.{drop_more, drop_all, get_or_read}
use Rattle.std.proofs.lemmas.List.Folds.{list_all-map}
use Rattle.coin_facts.specs.IdLists.{is_same_id, is_among}
use Rattle.judge_spec.specs.declared.rule.Rule.TheVariants.{LeavesCoins, LowerRate, SmallRaise}
use Rattle.judge_spec.specs.Checks.{id_of}
use Rattle.pool_spec.specs.Prices.{Priced, refusal_at, fees_of, costs_of}
use Rattle.pool_spec.specs.Replacement.{do_conflict, conflicts, replaced_by, fit_ids, covers, left_coins, first_conflict_unless}
use Rattle.fee_replace.specs.Coins.{spends}
use Rattle.fee_replace.specs.Told.{numbered, told}
use Rattle.fee_replace.proofs.PlaceLaws.{count, within, sum-by_places, find-by_places, first-place}

pub no_item : Priced
no_item = record { bundle = record { spends = []; attested = [] }; fit = []; classes = []; fee = 0; cost = 0 }

any-map : {A B : Type 0} (p : B → Bool) (f : A → B) (xs : List A) → list_any p (map f xs) ≡ list_any (λ x. p (f x)) xs
any-map p f [] = refl
any-map p f (x ∷ xs) = ap (λ b. p (f x) || b) (any-map p f xs)

all-same : {A : Type 0} (p q : A → Bool) (xs : List A) → ((x : A) → p x ≡ q x) → list_all p xs ≡ list_all q xs
all-same p q [] same = refl
all-same p q (x ∷ xs) same = (λ i. same x i && all-same p q xs same i)

covers-is : (new item : Priced) → list_all (λ facts. spends new (id_of facts)) item.fit ≡ covers new item
covers-is new item =
    all-same (λ facts. spends new (id_of facts)) (λ facts. is_among (fit_ids new) (id_of facts)) item.fit
    (λ facts. sym (any-map (λ other. is_same_id other (id_of facts)) id_of new.fit))
    ∙ sym (list_all-map (is_among (fit_ids new)) id_of item.fit)

-- where these places are listed
module _ (new : Priced) (items : List Priced) (places : List ℕ) (are : places ≡ conflicts new items) where
  pub few : length places ≤ length items
  few = subst (λ ps. length ps ≤ length items) (sym are) (count (do_conflict new) 0 items)

  pub inside : (j : ℕ) → j < length places → get_or places j 0 < length items
  inside =
      subst (λ ps. (j : ℕ) → j < length ps → get_or ps j 0 < length items) (sym are)
      (λ j h. subst (λ n. get_or (conflicts new items) j 0 < n) (zero-add (length items)) (within (do_conflict new) 0 items j h))

  pub left_coins-found : (d : Priced) → find (λ p. not (covers new (get_or items p d))) places ≡ left_coins new items
  left_coins-found d =
      ap (find (λ p. not (covers new (get_or items p d)))) are ∙ find-by_places (do_conflict new) (λ item. not (covers new item)) d items

  pub fees-summed : (d : Priced) → sum_by (λ p. (get_or items p d).fee) places ≡ fees_of (replaced_by new items)
  fees-summed d = ap (sum_by (λ p. (get_or items p d).fee)) are ∙ sym (sum-by_places (do_conflict new) (λ item. item.fee) d items)

  pub costs-summed : (d : Priced) → sum_by (λ p. (get_or items p d).cost) places ≡ costs_of (replaced_by new items)
  costs-summed d = ap (sum_by (λ p. (get_or items p d).cost)) are ∙ sym (sum-by_places (do_conflict new) (λ item. item.cost) d items)

  pub first-unless : (holds : Bool) → (if holds then None else slice_get places 0) ≡ first_conflict_unless holds new items
  first-unless holds = ap (λ first. if holds then None else first) (ap (λ ps. slice_get ps 0) are ∙ first-place (do_conflict new) items)

  -- the answer is found from a place on
  abbrev pub FoundFrom : ℕ → Type 0
  FoundFrom i = (d : Priced) → find (λ p. not (covers new (get_or items p d))) (drop i places) ≡ left_coins new items

  looked-at : (i : ℕ) (d : Priced) → i < length places
      → find (λ p. not (covers new (get_or items p d))) (drop i places)
      ≡ cond (not (covers new (get_or items (get_or places i 0) d))) (Some (get_or places i 0)) (find (λ p. not (covers new (get_or items p d))) (drop (i + 1) places))
  looked-at i d h = ap (find (λ p. not (covers new (get_or items p d)))) (drop_more places i 0 h)

  covers-at : (i : ℕ) (item d : Priced) (answer : Bool) → i < length places → item ≡ get_or items (get_or places i 0) item
      → answer ≡ list_all (λ facts. spends new (id_of facts)) item.fit → covers new (get_or items (get_or places i 0) d) ≡ answer
  covers-at i item d answer h at is =
      ap (covers new) (sym (get_or_read items (get_or places i 0) item (inside i h) at d)) ∙ sym (covers-is new item) ∙ sym is

  pub uncovered-found : (i : ℕ) (item : Priced) (answer : Bool) → i < length places → item ≡ get_or items (get_or places i 0) item
      → answer ≡ list_all (λ facts. spends new (id_of facts)) item.fit → answer ≡ false → FoundFrom i → Some (get_or places i 0) ≡ left_coins new items
  uncovered-found i item answer h at is fails from =
      sym (looked-at i item h ∙ ap (λ b. cond (not b) (Some (get_or places i 0)) (find (λ p. not (covers new (get_or items p item))) (drop (i + 1) places)))
      (covers-at i item item answer h at is ∙ fails)) ∙ from item

  pub covered-passed : (i : ℕ) (item : Priced) (answer : Bool) → i < length places → item ≡ get_or items (get_or places i 0) item
      → answer ≡ list_all (λ facts. spends new (id_of facts)) item.fit → answer ≡ true → FoundFrom i → FoundFrom (i + 1)
  covered-passed i item answer h at is holds from d =
      sym (looked-at i d h ∙ ap (λ b. cond (not b) (Some (get_or places i 0)) (find (λ p. not (covers new (get_or items p d))) (drop (i + 1) places)))
      (covers-at i item d answer h at is ∙ holds)) ∙ from d

  pub none-found : (i : ℕ) → length places ≤ i → FoundFrom i → None ≡ left_coins new items
  none-found i h from = sym (ap (find (λ p. not (covers new (get_or items p no_item)))) (drop_all i places h)) ∙ from no_item

-- the first of three rules
pub first-told : (a b c : Option ℕ) →
    option_or (option_or (option_map (numbered LeavesCoins) a) (option_map (numbered LowerRate) b)) (option_map (numbered SmallRaise) c)
    ≡ option_map told (option_or (refusal_at LeavesCoins a) (option_or (refusal_at LowerRate b) (refusal_at SmallRaise c)))
first-told (Some p) b c = refl
first-told None (Some p) c = refl
first-told None None (Some p) = refl
first-told None None None = refl
