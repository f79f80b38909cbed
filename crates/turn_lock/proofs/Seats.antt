-- A list of views in which one changes, or which gets one more.
use Rattle.std.proofs.Common.{◌≡◌, ◌≢◌, ℕ, zero, suc, List, [], ◌∷◌, ◌++◌, set, get_or, Some, None, refl, sym, ap, ◌∙◌, subst, ⊎_elim}
use mathlib.Core.Option.{some, some-injective, some-ne-none}
use lib.ListN.{get_elem?}
use Rattle.atomic_table.proofs.Lists.{at_set, at_snoc}
use Rattle.turn_lock.specs.declared.rule.View.{View}
use Rattle.turn_lock.specs.Rule.{HaveNamesApart}

module _ {V : Type 0} where
  pub one_at : (views : List V) (j : ℕ) (v w : V) → get_elem? views j ≡ some v → get_elem? views j ≡ some w → v ≡ w
  one_at views j v w a b = some-injective v w (sym a ∙ b)

  pub set_at : (views : List V) (j : ℕ) (v w : V) → get_elem? views j ≡ some v → get_elem? (set views j w) j ≡ some w
  set_at [] j v w at = absurd (some-ne-none v (sym at))
  set_at (x ∷ views) zero v w at = refl
  set_at (x ∷ views) (suc j) v w at = set_at views j v w at

  -- what holds of the view that changes, and of each other, holds of each
  pub each_set : (Q : ℕ → V → Type 0) (views : List V) (id : ℕ) (w : V) → Q id w → ((j : ℕ) (v : V) → j ≢ id → get_elem? views j ≡ some v → Q j v)
      → (j : ℕ) (v : V) → get_elem? (set views id w) j ≡ some v → Q j v
  each_set Q views id w new others j v at =
      ⊎_elim
      (λ (h : (j ≡ id) × (w ≡ v)). subst (λ k. Q k v) (sym h.0) (subst (Q id) h.1 new))
      (λ (h : (j ≢ id) × (get_elem? views j ≡ some v)). others j v h.0 h.1)
      (at_set views id j w v at)

  -- the same of a list that gets one more
  pub each_longer : (Q : V → Type 0) (views : List V) (w : V) → Q w → ((j : ℕ) (v : V) → get_elem? views j ≡ some v → Q v)
      → (j : ℕ) (v : V) → get_elem? (views ++ w ∷ []) j ≡ some v → Q v
  each_longer Q views w new old j v at = ⊎_elim (λ h. old j v h) (λ h. subst Q h new) (at_snoc views w v j at)

  pub only_one : (Q : V → Type 0) (w : V) → Q w → (j : ℕ) (v : V) → get_elem? (w ∷ []) j ≡ some v → Q v
  only_one Q w here j v at = each_longer Q [] w here (λ k u none. absurd (some-ne-none u (sym none))) j v at

pub set_same : (words : List ℕ) (i : ℕ) → set words i (get_or words i 0) ≡ words
set_same [] i = refl
set_same (n ∷ words) zero = refl
set_same (n ∷ words) (suc i) = ap (λ l. n ∷ l) (set_same words i)

module _ {O E : Type 0} where
  -- no other seat has this view's name
  abbrev pub IsAlone : List (View O E) → ℕ → View O E → Type 0
  IsAlone views id w = (n j : ℕ) (u : View O E) → w.name ≡ Some n → j ≢ id → get_elem? views j ≡ some u → u.name ≢ Some n

  pub alone_still : (views : List (View O E)) (id : ℕ) (v w : View O E) → HaveNamesApart views → get_elem? views id ≡ some v → ((n : ℕ) → w.name ≡ Some n → v.name ≡ Some n) → IsAlone views id w
  alone_still views id v w apart at keep n j u name ne there same = ne (apart j id n u v there at same (keep n name))

  pub apart_set : (views : List (View O E)) (id : ℕ) (w : View O E) → HaveNamesApart views → IsAlone views id w → HaveNamesApart (set views id w)
  apart_set views id w apart alone i j n v u at_i at_j name_v name_u =
      ⊎_elim
      (λ (h : (i ≡ id) × (w ≡ v)).
      ⊎_elim
      (λ (k : (j ≡ id) × (w ≡ u)). h.0 ∙ sym k.0)
      (λ (k : (j ≢ id) × (get_elem? views j ≡ some u)). absurd (alone n j u (ap (λ x. x.name) h.1 ∙ name_v) k.0 k.1 name_u))
      (at_set views id j w u at_j))
      (λ (h : (i ≢ id) × (get_elem? views i ≡ some v)).
      ⊎_elim
      (λ (k : (j ≡ id) × (w ≡ u)). absurd (alone n i v (ap (λ x. x.name) k.1 ∙ name_u) h.0 h.1 name_v))
      (λ (k : (j ≢ id) × (get_elem? views j ≡ some u)). apart i j n v u h.1 k.1 name_v name_u)
      (at_set views id j w u at_j))
      (at_set views id i w v at_i)

  pub apart_longer : (views : List (View O E)) (w : View O E) → HaveNamesApart views → w.name ≡ None → HaveNamesApart (views ++ w ∷ [])
  apart_longer views w apart nameless i j n v u at_i at_j name_v name_u =
      let no : (x : View O E) → w ≡ x → x.name ≡ Some n → ⊥ = λ x is name. (let e : None ≡ Some n = sym nameless ∙ ap (λ y. y.name) is ∙ name in cc) in
      ⊎_elim
      (λ (h : get_elem? views i ≡ some v). ⊎_elim (λ (k : get_elem? views j ≡ some u). apart i j n v u h k name_v name_u) (λ (k : w ≡ u). absurd (no u k name_u)) (at_snoc views w u j at_j))
      (λ (h : w ≡ v). absurd (no v h name_v))
      (at_snoc views w v i at_i)
