-- How long paths to functions are.
use Rattle.std.proofs.Common.{◌≡◌, ℕ, zero, suc, ◌+◌, ◌*◌, ◌^◌, ◌<◌, ◌≤◌, Bool, true, false, cond, List, [], ◌∷◌, length, Option, Some, None, bytes_eq, refl, subst, arith}
use Rattle.lisp_spec.specs.Parameters.{Side, ToFirst, ToRest}
use Rattle.lisp_code.specs.Frames.{Function, Places, Here, Fork, with_place, places_of, one_side, path_in}
use Rattle.lisp_code.specs.CodeLaws.{PathsAreShort}

abbrev pub count : Places → ℕ
count (Here f) = 1
count (Fork first rest) = count first + count rest

count_with : (f : Function) (places : Places) → count (with_place f places) ≡ suc (count places)
count_with f (Here g) = refl
count_with f (Fork first rest) = let h = count_with f rest in omega arith

pub count_of : (f : Function) (fs : List Function) → count (places_of f fs) ≡ length (f ∷ fs)
count_of f [] = refl
count_of f (g ∷ fs) = let w = count_with f (places_of g fs) in let h = count_of g fs in omega arith

count_above : (places : Places) → 1 ≤ count places
count_above (Here f) = omega arith
count_above (Fork first rest) = let h = count_above first in omega arith

-- what holds of the steps of a path that is found
module _ (Within : List Side → Type 0) where
  path_one : Within [] → (b : Bool) (path : List Side) → cond b (Some []) None ≡ Some path → Within path
  path_one h true path e = let same : [] ≡ path = cc in subst Within same h
  path_one h false path e = absurd cc

  path_side : (first rest : Option (List Side)) → ((path : List Side) → first ≡ Some path → Within (ToFirst ∷ path)) → ((path : List Side) → rest ≡ Some path → Within (ToRest ∷ path)) →
      (path : List Side) → one_side first rest ≡ Some path → Within path
  path_side (Some found) rest p q path e = let same : ToFirst ∷ found ≡ path = cc in subst Within same (p found refl)
  path_side None (Some found) p q path e = let same : ToRest ∷ found ≡ path = cc in subst Within same (q found refl)
  path_side None None p q path e = absurd cc

pub path_short : (name : List ℕ) (places : Places) (path : List Side) → path_in name places ≡ Some path → length path < count places
path_short name (Here f) path e = path_one (λ path. length path < 1) (omega arith) (bytes_eq f.name name) path e
path_short name (Fork first rest) path e =
    path_side (λ path. length path < count first + count rest) (path_in name first) (path_in name rest)
    (λ path e. omega (arith, path_short name first path e, count_above rest)) (λ path e. omega (arith, path_short name rest path e, count_above first)) path e

-- ---- no side has two functions more than the other

IsBalanced : Places → Type 0
IsBalanced (Here f) = Unit {0}
IsBalanced (Fork first rest) = (count rest ≤ count first) × (count first ≤ suc (count rest)) × IsBalanced first × IsBalanced rest

with_balance : (f : Function) (places : Places) → IsBalanced places → IsBalanced (with_place f places)
unfolding IsBalanced
with_balance f (Here g) h = (omega arith, omega arith, tt, tt)
with_balance f (Fork first rest) h = let w = count_with f rest in let a = h.0 in let b = h.1 in (omega arith, omega arith, with_balance f rest h.3, h.2)

balanced : (f : Function) (fs : List Function) → IsBalanced (places_of f fs)
unfolding IsBalanced
balanced f [] = tt
balanced f (g ∷ fs) = with_balance f (places_of g fs) (balanced g fs)

power_above : (k : ℕ) → 1 ≤ 2 ^ k
power_above zero = omega arith
power_above (suc k) = let h = power_above k in let p : 2 ^ suc k ≡ 2 * 2 ^ k = omega arith in omega arith

-- one step more, into the larger side
one_more : (k first rest : ℕ) → rest ≤ first → first ≤ suc rest → 1 ≤ rest → 2 ^ k < 2 * first → 2 ^ suc k < 2 * (first + rest)
one_more zero first rest a b c h = omega arith
one_more (suc k) first rest a b c h = let p : 2 ^ suc k ≡ 2 * 2 ^ k = omega arith in let q : 2 ^ suc (suc k) ≡ 2 * 2 ^ suc k = omega arith in omega arith

other_more : (k first rest : ℕ) → rest ≤ first → 2 ^ k < 2 * rest → 2 ^ suc k < 2 * (first + rest)
other_more k first rest a h = let p : 2 ^ suc k ≡ 2 * 2 ^ k = omega arith in omega arith

path_log : (name : List ℕ) (places : Places) → IsBalanced places → (path : List Side) → path_in name places ≡ Some path → 2 ^ length path < 2 * count places
unfolding IsBalanced
path_log name (Here f) h path e = path_one (λ path. 2 ^ length path < 2) (omega arith) (bytes_eq f.name name) path e
path_log name (Fork first rest) h path e =
    path_side (λ path. 2 ^ length path < 2 * (count first + count rest)) (path_in name first) (path_in name rest)
    (λ path e. one_more (length path) (count first) (count rest) h.0 h.1 (count_above rest) (path_log name first h.2 path e))
    (λ path e. other_more (length path) (count first) (count rest) h.0 (path_log name rest h.3 path e)) path e

pub paths_are_short : PathsAreShort
paths_are_short f more name path e = subst (λ n. 2 ^ length path < 2 * n) (count_of f more) (path_log name (places_of f more) (balanced f more) path e)
