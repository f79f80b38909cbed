-- Paths of calls: that they need no inline twice, so that there are no more steps than inlines.
use Rattle.std.proofs.Common.{◌≡◌, ◌≢◌, ℕ, zero, suc, ◌≤◌, ◌<◌, ◌⊎◌, inl, inr, Bool, true, false, not, ◌||◌, cond, List, [], ◌∷◌, filter, length, Option, Some, None, bytes_eq, refl, sym, ◌∙◌, ap, subst, arith, true≢false}
use Rattle.std.specs.List.{list_any}
use Rattle.std.proofs.lemmas.Slice.Eq.{bytes_eq-Decides}
use Rattle.lisp_spec.specs.Modules.{Definition, Module, definition_named}
use Rattle.lisp_spec.specs.ModuleFaults.{is_among}
use Rattle.lisp_spec.specs.Cycles.{calls_of, reaches_within}
use Rattle.lisp_spec.specs.ModuleLaws.{Distinct}
use Rattle.lisp_spec.specs.Modules.{definition_names}
use Rattle.std.specs.List.{AllByRecursion}
use Rattle.lisp_spec.specs.CycleLaws.{Calls, IsPath, FindsReached, FoundIsReached}

-- ---- names

pub is_same : (x y : List ℕ) → bytes_eq x y ≡ true → x ≡ y
is_same x y e = (bytes_eq-Decides x y).0 e

pub same_is : (x : List ℕ) → bytes_eq x x ≡ true
same_is x = (bytes_eq-Decides x x).1 refl

pub cases : (b : Bool) → (b ≡ true) ⊎ (b ≡ false)
cases true = inl refl
cases false = inr refl

pub or_left : (a b : Bool) → a ≡ true → (a || b) ≡ true
or_left a b e = rw e refl

pub or_right : (a b : Bool) → b ≡ true → (a || b) ≡ true
or_right true b e = refl
or_right false b e = e

pub or_false : (a b : Bool) → (a || b) ≡ false → (a ≡ false) × (b ≡ false)
or_false true b e = absurd cc
or_false false b e = (refl, e)

pub or_true : (a b : Bool) → (a || b) ≡ true → a ≡ false → b ≡ true
or_true true b e n = absurd cc
or_true false b e n = e

-- ---- some element passes

abbrev Passes : (List ℕ → Bool) → List (List ℕ) → Type 0
Passes p xs = (x : List ℕ) × (is_among x xs ≡ true) × (p x ≡ true)

pub passing : (p : List ℕ → Bool) (xs : List (List ℕ)) → list_any p xs ≡ true → Passes p xs
passing p [] e = absurd cc
passing p (x ∷ xs) e = elim (cases (p x)) [
  | inl t ↦ (x, or_left (bytes_eq x x) (is_among x xs) (same_is x), t)
  | inr f ↦ let h = passing p xs (or_true (p x) (list_any p xs) e f) in (h.0, or_right (bytes_eq h.0 x) (is_among h.0 xs) h.1, h.2)
]

pub passes : (p : List ℕ → Bool) (x : List ℕ) (xs : List (List ℕ)) → is_among x xs ≡ true → p x ≡ true → list_any p xs ≡ true
passes p x [] h e = absurd cc
passes p x (y ∷ ys) h e = elim (cases (bytes_eq x y)) [
  | inl t ↦ or_left (p y) (list_any p ys) (ap p (sym (is_same x y t)) ∙ e)
  | inr f ↦ or_right (p y) (list_any p ys) (passes p x ys (or_true (bytes_eq x y) (is_among x ys) h f) e)
]

-- ---- distinct names among others are no more than these

abbrev without : List ℕ → List (List ℕ) → List (List ℕ)
without x ys = filter (λ y. not (bytes_eq x y)) ys

shorter : (x : List ℕ) (ys : List (List ℕ)) → length (without x ys) ≤ length ys
shorter x [] = omega arith
shorter x (y ∷ ys) = elim (bytes_eq x y) as (λ t. length (cond (not t) (y ∷ without x ys) (without x ys)) ≤ suc (length ys)) [
  | true ↦ omega (arith, shorter x ys)
  | false ↦ omega (arith, shorter x ys)
]

removed : (x : List ℕ) (ys : List (List ℕ)) → is_among x ys ≡ true → length (without x ys) < length ys
removed x [] h = absurd cc
removed x (y ∷ ys) h =
    elim (bytes_eq x y) as (λ t. (t || is_among x ys) ≡ true → length (cond (not t) (y ∷ without x ys) (without x ys)) < suc (length ys)) [
      | true ↦ λ e. omega (arith, shorter x ys)
      | false ↦ λ e. omega (arith, removed x ys e)
    ] h

left_among : (x z : List ℕ) (ys : List (List ℕ)) → is_among z ys ≡ true → bytes_eq z x ≡ false → is_among z (without x ys) ≡ true
left_among x z [] h n = absurd cc
left_among x z (y ∷ ys) h n =
    elim (cases (bytes_eq x y)) [
      | inl t ↦ subst (λ b. is_among z (cond (not b) (y ∷ without x ys) (without x ys)) ≡ true) (sym t)
          (left_among x z ys (or_true (bytes_eq z y) (is_among z ys) h (subst (λ w. bytes_eq z w ≡ false) (is_same x y t) n)) n)
      | inr f ↦ subst (λ b. is_among z (cond (not b) (y ∷ without x ys) (without x ys)) ≡ true) (sym f)
          (elim (cases (bytes_eq z y)) [
            | inl e ↦ or_left (bytes_eq z y) (is_among z (without x ys)) e
            | inr e ↦ or_right (bytes_eq z y) (is_among z (without x ys)) (left_among x z ys (or_true (bytes_eq z y) (is_among z ys) h e) n)
          ])
    ]

pub not_same : (z x : List ℕ) → bytes_eq x z ≡ false → bytes_eq z x ≡ false
not_same z x e = elim (cases (bytes_eq z x)) [ inl t ↦ absurd (true≢false (sym (same_is z) ∙ subst (λ w. bytes_eq w z ≡ false) (sym (is_same z x t)) e)) | inr f ↦ f ]

all_left : (x : List ℕ) (xs ys : List (List ℕ)) → is_among x xs ≡ false → AllByRecursion (λ z. is_among z ys ≡ true) xs → AllByRecursion (λ z. is_among z (without x ys) ≡ true) xs
all_left x [] ys n h = tt
all_left x (z ∷ zs) ys n h =
    let o = or_false (bytes_eq x z) (is_among x zs) n in
    (left_among x z ys h.0 (not_same z x o.0), all_left x zs ys o.1 h.1)

pub no_more : (xs ys : List (List ℕ)) → Distinct xs → AllByRecursion (λ x. is_among x ys ≡ true) xs → length xs ≤ length ys
no_more [] ys d h = omega arith
no_more (x ∷ xs) ys d h = omega (arith, no_more xs (without x ys) d.1 (all_left x xs ys d.0 h.1), removed x ys h.0)

-- ---- paths

-- Who calls is an inline.
pub inline_among : (x : List ℕ) (inlines : List Definition) → definition_named x inlines ≢ None → is_among x (definition_names inlines) ≡ true
inline_among x [] h = absurd (h refl)
inline_among x (d ∷ inlines) h = elim (cases (bytes_eq d.name x)) [
  | inl t ↦ or_left (bytes_eq x d.name) (is_among x (definition_names inlines)) (subst (λ w. bytes_eq x w ≡ true) (sym (is_same d.name x t)) (same_is x))
  | inr f ↦ or_right (bytes_eq x d.name) (is_among x (definition_names inlines))
      (inline_among x inlines (λ n. h (subst (λ b. cond b (Some d) (definition_named x inlines) ≡ None) (sym f) n)))
]

pub as_many_names : (inlines : List Definition) → length (definition_names inlines) ≡ length inlines
as_many_names [] = refl
as_many_names (d ∷ inlines) = ap suc (as_many_names inlines)

calls_some : (m : Module) (found : Option Definition) (called : List ℕ) → is_among called (calls_of m found) ≡ true → found ≢ None
calls_some m None called e n = absurd cc
calls_some m (Some d) called e n = absurd cc

caller_among : (m : Module) (from called : List ℕ) → Calls m from called → is_among from (definition_names m.inlines) ≡ true
caller_among m from called e = inline_among from m.inlines (calls_some m (definition_named from m.inlines) called e)

callers_among : (m : Module) (from : List ℕ) (through : List (List ℕ)) (name : List ℕ) → IsPath m from through name →
    AllByRecursion (λ x. is_among x (definition_names m.inlines) ≡ true) (from ∷ through)
callers_among m from [] name p = (caller_among m from name p, tt)
callers_among m from (called ∷ more) name p = (caller_among m from called p.0, callers_among m called more name p.1)

-- a path that no inline is on twice
pub record Simple (m : Module) (from name : List ℕ) : Type 0 where
  pub through : List (List ℕ)
  pub path : IsPath m from through name
  pub once : Distinct (from ∷ through)

from_here : (m : Module) (x from : List ℕ) (through : List (List ℕ)) (name : List ℕ) → IsPath m from through name → Distinct (from ∷ through) →
    x ≡ from → Simple m x name
from_here m x from through name p d e = subst (λ w. Simple m w name) (sym e) (record { through = through; path = p; once = d })

cut : (m : Module) (x from : List ℕ) (through : List (List ℕ)) (name : List ℕ) → IsPath m from through name → Distinct (from ∷ through) →
    is_among x (from ∷ through) ≡ true → Simple m x name
cut m x from [] name p d h = elim (cases (bytes_eq x from)) [
  | inl t ↦ from_here m x from [] name p d (is_same x from t)
  | inr f ↦ absurd (true≢false (sym (or_true (bytes_eq x from) false h f)))
]
cut m x from (called ∷ more) name p d h = elim (cases (bytes_eq x from)) [
  | inl t ↦ from_here m x from (called ∷ more) name p d (is_same x from t)
  | inr f ↦ cut m x called more name p.1 d.1 (or_true (bytes_eq x from) (is_among x (called ∷ more)) h f)
]

-- Whatever a path leads to, one without repeats does.
simple : (m : Module) (from : List ℕ) (through : List (List ℕ)) (name : List ℕ) → IsPath m from through name → Simple m from name
simple m from [] name p = record { through = []; path = p; once = (refl, tt) }
simple m from (called ∷ more) name p =
    let s = simple m called more name p.1 in
    elim (cases (is_among from (called ∷ s.through))) [
      | inl t ↦ cut m from called s.through name s.path s.once t
      | inr f ↦ record { through = called ∷ s.through; path = (p.0, s.path); once = (f, s.once) }
    ]

-- ---- what is found

reached : (m : Module) (from : List ℕ) (through : List (List ℕ)) (name : List ℕ) (bound : ℕ) → IsPath m from through name →
    length through < bound → reaches_within bound m from name ≡ true
reached m from through name zero p l = absurd (omega (arith, l))
reached m from [] name (suc bound) p l =
    passes (λ called. bytes_eq called name || reaches_within bound m called name) name (calls_of m (definition_named from m.inlines)) p
    (or_left (bytes_eq name name) (reaches_within bound m name name) (same_is name))
reached m from (called ∷ more) name (suc bound) p l =
    passes (λ called. bytes_eq called name || reaches_within bound m called name) called (calls_of m (definition_named from m.inlines)) p.0
    (or_right (bytes_eq called name) (reaches_within bound m called name) (reached m called more name bound p.1 (omega (arith, l))))

pub finds_reached : FindsReached
finds_reached m from name r =
    let s = simple m from r.0 name r.1 in
    reached m from s.through name (length m.inlines) s.path
    (subst (λ n. length s.through < n) (as_many_names m.inlines) (no_more (from ∷ s.through) (definition_names m.inlines) s.once (callers_among m from s.through name s.path)))

pub found_is_reached : FoundIsReached
found_is_reached m from name zero e = absurd cc
found_is_reached m from name (suc bound) e =
    let h = passing (λ called. bytes_eq called name || reaches_within bound m called name) (calls_of m (definition_named from m.inlines)) e in
    elim (cases (bytes_eq h.0 name)) [
      | inl t ↦ ([], subst (λ w. Calls m from w) (is_same h.0 name t) h.1)
      | inr f ↦ let r = found_is_reached m h.0 name bound (or_true (bytes_eq h.0 name) (reaches_within bound m h.0 name) h.2 f) in (h.0 ∷ r.0, (h.1, r.1))
    ]
