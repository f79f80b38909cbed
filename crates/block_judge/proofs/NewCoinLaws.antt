-- The rule on created coins, one id after another.
use Rattle.std.proofs.Common.{◌≡◌, ℕ, suc, ◌+◌, ◌<◌, ◌||◌, Bool, true, false, if◌then◌else◌, Option, Some, None, List, [], ◌∷◌, ◌++◌, map, length, drop, get_or, refl, ap, sym, ◌∙◌, add-one, drop-cons, arith}
use Rattle.std.specs.Prelude.{is_some}
use Rattle.std.specs.List.{list_any}
use Rattle.std.proofs.lemmas.List.{at_drop_more}
use Rattle.std.proofs.lemmas.List.Folds.{list_any-append}
use Rattle.coin_facts.specs.declared.hash32.Hash32.{Hash32}
use Rattle.coin_facts.specs.IdLists.{is_same_id, is_among, repeat_behind}
use Rattle.coin_facts.specs.CoinId.{coin_id}
use Rattle.cond_spec.specs.Acts.{of_spend, coin_made}
use Rattle.judge_spec.specs.Facts.{Facts, acts_of}
use Rattle.judge_spec.specs.Checks.{has_old_id, old_id_from, created_by_each}

-- ---- repeats look at the earlier ids as a set

same-some : (b : Bool) (n m : ℕ) (x y : Option ℕ) → is_some x ≡ is_some y → is_some (if b then Some n else x) ≡ is_some (if b then Some m else y)
same-some true n m x y e = refl
same-some false n m x y e = e

same-repeats : (earlier other : List Hash32) (n m : ℕ) (ids : List Hash32) → ((id : Hash32) → is_among earlier id ≡ is_among other id)
    → is_some (repeat_behind earlier n ids) ≡ is_some (repeat_behind other m ids)
same-repeats earlier other n m [] same = refl
same-repeats earlier other n m (id ∷ ids) same =
    ap (λ b. is_some (if b then Some n else repeat_behind (id ∷ earlier) (suc n) ids)) (same id)
    ∙ same-some (is_among other id) n m (repeat_behind (id ∷ earlier) (suc n) ids) (repeat_behind (id ∷ other) (suc m) ids)
    (same-repeats (id ∷ earlier) (id ∷ other) (suc n) (suc m) ids (λ q. ap (λ b. is_same_id id q || b) (same q)))

turned : (a b : Bool) → (a || b) ≡ (b || (a || false))
turned true true = refl
turned true false = refl
turned false true = refl
turned false false = refl

behind-is-before : (earlier : List Hash32) (id q : Hash32) → is_among (id ∷ earlier) q ≡ is_among (earlier ++ id ∷ []) q
behind-is-before earlier id q =
    turned (is_same_id id q) (is_among earlier q) ∙ sym (list_any-append (λ other. is_same_id other q) earlier (id ∷ []))

-- ---- one id after another

pub adds_old : (Hash32 → Bool) → List Hash32 → List Hash32 → Bool
adds_old is_there earlier [] = false
adds_old is_there earlier (id ∷ ids) = (is_there id || is_among earlier id) || adds_old is_there (earlier ++ id ∷ []) ids

some-or : (b : Bool) (n : ℕ) (x : Option ℕ) → is_some (if b then Some n else x) ≡ (b || is_some x)
some-or true n x = refl
some-or false n x = refl

regrouped : (t a b r : Bool) → ((t || a) || (b || r)) ≡ ((t || b) || (a || r))
regrouped true a b r = refl
regrouped false true true r = refl
regrouped false true false r = refl
regrouped false false true r = refl
regrouped false false false r = refl

pub old-is : (is_there : Hash32 → Bool) (earlier ids : List Hash32) → has_old_id is_there earlier ids ≡ adds_old is_there earlier ids
unfolding adds_old
old-is is_there earlier [] = refl
old-is is_there earlier (id ∷ ids) =
    let more = repeat_behind (id ∷ earlier) 1 ids in
    ap (λ r. (is_there id || list_any is_there ids) || r) (some-or (is_among earlier id) 0 more)
    ∙ regrouped (is_there id) (list_any is_there ids) (is_among earlier id) (is_some more)
    ∙ ap (λ r. (is_there id || is_among earlier id) || (list_any is_there ids || r)) (same-repeats (id ∷ earlier) (earlier ++ id ∷ []) 1 0 ids (behind-is-before earlier id))
    ∙ ap (λ r. (is_there id || is_among earlier id) || r) (old-is is_there (earlier ++ id ∷ []) ids)

module _ (is_there : Hash32 → Bool) (earlier ids : List Hash32) (place : ℕ) (d : Hash32) (within : place < length ids) where
  pub adds-next : (is_there (get_or ids place d) || is_among earlier (get_or ids place d)) ≡ false
      → adds_old is_there earlier (drop place ids) ≡ adds_old is_there (earlier ++ get_or ids place d ∷ []) (drop (place + 1) ids)
  unfolding adds_old
  adds-next new =
      rw (add-one, drop-cons ids place d) (ap (λ b. b || adds_old is_there (earlier ++ get_or ids place d ∷ []) (drop (suc place) ids)) new)

  pub adds-old : (is_there (get_or ids place d) || is_among earlier (get_or ids place d)) ≡ true → adds_old is_there earlier (drop place ids) ≡ true
  unfolding adds_old
  adds-old old =
      rw (drop-cons ids place d) (ap (λ b. b || adds_old is_there (earlier ++ get_or ids place d ∷ []) (drop (suc place) ids)) old)

pub adds-none : (is_there : Hash32 → Bool) (earlier : List Hash32) → adds_old is_there earlier [] ≡ false
unfolding adds_old
adds-none is_there earlier = refl

-- ---- one spend after another

abbrev pub ids_by : Facts → List Hash32
ids_by facts = map coin_id (of_spend coin_made (acts_of facts))

module _ (is_there : Hash32 → Bool) (earlier : List Hash32) (list : List Facts) (place : ℕ) (facts : Facts) (within : place < length list) (there : facts ≡ get_or list place facts) where
  rest : List (List Hash32)
  rest = created_by_each (map acts_of (drop (place + 1) list))

  here : old_id_from is_there earlier place (created_by_each (map acts_of (drop place list)))
      ≡ (if has_old_id is_there earlier (ids_by facts) then Some place else old_id_from is_there (earlier ++ ids_by facts) (suc place) rest)
  unfolding rest
  here =
      at_drop_more (λ more. old_id_from is_there earlier place (created_by_each (map acts_of more))) list place facts within
      ∙ ap (λ f. old_id_from is_there earlier place (created_by_each (map acts_of (f ∷ drop (place + 1) list)))) (sym there)

  pub exists-next : has_old_id is_there earlier (ids_by facts) ≡ false
      → old_id_from is_there earlier place (created_by_each (map acts_of (drop place list))) ≡ old_id_from is_there (earlier ++ ids_by facts) (place + 1) (created_by_each (map acts_of (drop (place + 1) list)))
  unfolding rest
  exists-next new =
      let next : suc place ≡ place + 1 = omega arith in
      here ∙ ap (λ b. if b then Some place else old_id_from is_there (earlier ++ ids_by facts) (suc place) rest) new
      ∙ ap (λ n. old_id_from is_there (earlier ++ ids_by facts) n rest) next

  pub exists-here : has_old_id is_there earlier (ids_by facts) ≡ true → old_id_from is_there earlier place (created_by_each (map acts_of (drop place list))) ≡ Some place
  exists-here old = here ∙ ap (λ b. if b then Some place else old_id_from is_there (earlier ++ ids_by facts) (suc place) rest) old
