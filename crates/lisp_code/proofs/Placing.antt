-- Where functions stand in the tree of those that are reached.
use Rattle.std.proofs.Common.{◌≡◌, ℕ, inl, inr, Bool, true, false, ◌||◌, cond, List, [], ◌∷◌, Some, None, option_map, bytes_eq, refl, sym, ap, ◌∙◌}
use Rattle.std.specs.List.{AllByRecursion}
use Rattle.lisp_spec.specs.Parameters.{Side, ToFirst, ToRest, tree_at}
use Rattle.lisp_spec.proofs.CycleProofs.{cases, or_true}
use Rattle.lisp_code.specs.Frames.{Function, Places, Here, Fork, with_place, places_of, one_side, path_in, Frame, tree_of, table}
use Rattle.lisp_code.proofs.Reaching.{has_name}

-- ---- what holds of each

abbrev EachPlace : (Function → Type 0) → Places → Type 0
EachPlace Q (Here f) = Q f
EachPlace Q (Fork first rest) = EachPlace Q first × EachPlace Q rest

with_each : (Q : Function → Type 0) (f : Function) (places : Places) → Q f → EachPlace Q places → EachPlace Q (with_place f places)
with_each Q f (Here g) q e = (q, e)
with_each Q f (Fork first rest) q e = (with_each Q f rest q e.1, e.0)

pub each_place : (Q : Function → Type 0) (f : Function) (fs : List Function) → AllByRecursion Q (f ∷ fs) → EachPlace Q (places_of f fs)
each_place Q f [] h = h.0
each_place Q f (g ∷ fs) h = with_each Q f (places_of g fs) h.0 (each_place Q g fs h.1)

-- ---- names

abbrev pub has_place : List ℕ → Places → Bool
has_place name (Here f) = bytes_eq f.name name
has_place name (Fork first rest) = has_place name first || has_place name rest

or_nothing : (a : Bool) → (a || false) ≡ a
or_nothing true = refl
or_nothing false = refl

turned : (a b c : Bool) → ((a || c) || b) ≡ (a || (b || c))
turned true b c = refl
turned false true true = refl
turned false true false = refl
turned false false true = refl
turned false false false = refl

has_with : (name : List ℕ) (f : Function) (places : Places) → has_place name (with_place f places) ≡ (bytes_eq f.name name || has_place name places)
has_with name f (Here g) = refl
has_with name f (Fork first rest) = ap (λ b. b || has_place name first) (has_with name f rest) ∙ turned (bytes_eq f.name name) (has_place name first) (has_place name rest)

pub has_each : (name : List ℕ) (f : Function) (fs : List Function) → has_place name (places_of f fs) ≡ has_name name (f ∷ fs)
has_each name f [] = sym (or_nothing (bytes_eq f.name name))
has_each name f (g ∷ fs) = has_with name f (places_of g fs) ∙ ap (λ b. bytes_eq f.name name || b) (has_each name g fs)

-- ---- paths

pub record Stands (frame : Frame) (Q : Function → Type 0) (name : List ℕ) (places : Places) : Type 0 where
  pub f : Function
  pub path : List Side
  pub is_path : path_in name places ≡ Some path
  pub leads : tree_at path (table frame places) ≡ Some (tree_of frame f.code)
  pub is_named : bytes_eq f.name name ≡ true
  pub holds : Q f

pub no_path_in : (name : List ℕ) (places : Places) → has_place name places ≡ false → path_in name places ≡ None
no_path_in name (Here f) e = ap (λ b. cond b (Some []) None) e
no_path_in name (Fork first rest) e = elim (cases (has_place name first)) [
  | inl t ↦ let is : true ≡ false = sym (ap (λ b. b || has_place name rest) t) ∙ e in absurd cc
  | inr n ↦
      let other : has_place name rest ≡ false = sym (ap (λ b. b || has_place name rest) n) ∙ e in
      ap (λ p. one_side p (path_in name rest)) (no_path_in name first n) ∙ ap (option_map (λ path. ToRest ∷ path)) (no_path_in name rest other)
]

pub stands : (frame : Frame) (Q : Function → Type 0) (name : List ℕ) (places : Places) → EachPlace Q places → has_place name places ≡ true → Stands frame Q name places
stands frame Q name (Here f) q e = record { f = f; path = []; is_path = ap (λ b. cond b (Some []) None) e; leads = refl; is_named = e; holds = q }
stands frame Q name (Fork first rest) q e = elim (cases (has_place name first)) [
  | inl t ↦
      let s = stands frame Q name first q.0 t in
      record { f = s.f; path = ToFirst ∷ s.path; is_path = ap (λ p. one_side p (path_in name rest)) s.is_path; leads = s.leads; is_named = s.is_named; holds = s.holds }
  | inr n ↦
      let s = stands frame Q name rest q.1 (or_true (has_place name first) (has_place name rest) e n) in
      record {
        f = s.f;
        path = ToRest ∷ s.path;
        is_path = ap (λ p. one_side p (path_in name rest)) (no_path_in name first n) ∙ ap (option_map (λ path. ToRest ∷ path)) s.is_path;
        leads = s.leads;
        is_named = s.is_named;
        holds = s.holds;
      }
]
