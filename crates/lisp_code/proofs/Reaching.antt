-- The functions that a code reaches: each that it calls is among them, and each that one of them calls.
use Rattle.std.proofs.Common.{◌≡◌, ℕ, zero, suc, ◌+◌, ◌<◌, ◌≤◌, inl, inr, Bool, true, false, not, ◌||◌, cond, List, [], ◌∷◌, ◌++◌, filter, find, length, map, Option, Some, None, bytes_eq, refl, sym, ap, ◌∙◌, subst, true≢false, arith}
use Rattle.std.specs.List.{AllByRecursion}
use Rattle.lisp_spec.specs.Modules.{Module, Definition, definition_named}
use Rattle.lisp_spec.specs.ModuleFaults.{is_among}
use Rattle.lisp_spec.proofs.CycleProofs.{is_same, same_is, cases, or_left, or_right, or_true}
use Rattle.lisp_code.specs.Codes.{functions_called}
use Rattle.lisp_code.specs.Frames.{Function, and_on, reached}
use Rattle.lisp_code.specs.Code.{Codes, function_of}
use Rattle.lisp_code.specs.CodeLaws.{AreCalled, OnlyCalledAreThere}
use Rattle.lisp_code.proofs.Settling.{among_front, among_behind}

abbrev pub named : List ℕ → List Function → Option Function
named name fs = find (λ f. bytes_eq f.name name) fs

abbrev pub has_name : List ℕ → List Function → Bool
has_name name [] = false
has_name name (f ∷ fs) = bytes_eq f.name name || has_name name fs

abbrev pub without : List ℕ → List Function → List Function
without name fs = filter (λ g. not (bytes_eq g.name name)) fs

kept : (name : List ℕ) (f : Function) (fs : List Function) → bytes_eq f.name name ≡ false → without name (f ∷ fs) ≡ f ∷ without name fs
kept name f fs e = ap (λ b. cond (not b) (f ∷ without name fs) (without name fs)) e

dropped : (name : List ℕ) (f : Function) (fs : List Function) → bytes_eq f.name name ≡ true → without name (f ∷ fs) ≡ without name fs
dropped name f fs e = ap (λ b. cond (not b) (f ∷ without name fs) (without name fs)) e

named_first : (name : List ℕ) (f : Function) (fs : List Function) → bytes_eq f.name name ≡ true → named name (f ∷ fs) ≡ Some f
named_first name f fs e = ap (λ b. cond b (Some f) (named name fs)) e

named_later : (name : List ℕ) (f : Function) (fs : List Function) → bytes_eq f.name name ≡ false → named name (f ∷ fs) ≡ named name fs
named_later name f fs e = ap (λ b. cond b (Some f) (named name fs)) e

-- ---- what is found by a property of names

module _ (p : List ℕ → Bool) where
  abbrev found : List Function → Option Function
  found fs = find (λ f. p f.name) fs

  found_first : (d f : Function) (ds : List Function) → p d.name ≡ true → found (d ∷ ds) ≡ Some f → d ≡ f
  found_first d f ds t e = let is : Some d ≡ Some f = sym (ap (λ b. cond b (Some d) (found ds)) t) ∙ e in cc

  found_later : (d : Function) (ds : List Function) (o : Option Function) → p d.name ≡ false → found (d ∷ ds) ≡ o → found ds ≡ o
  found_later d ds o n e = sym (ap (λ b. cond b (Some d) (found ds)) n) ∙ e

  found_passes : (fs : List Function) (f : Function) → found fs ≡ Some f → p f.name ≡ true
  found_passes [] f e = absurd cc
  found_passes (d ∷ ds) f e = elim (cases (p d.name)) [
    | inl t ↦ subst (λ g. p g.name ≡ true) (found_first d f ds t e) t
    | inr n ↦ found_passes ds f (found_later d ds (Some f) n e)
  ]

  differ : (d f : Function) → p d.name ≡ false → p f.name ≡ true → bytes_eq d.name f.name ≡ false
  differ d f n t = elim (cases (bytes_eq d.name f.name)) [
    | inl same ↦ absurd (true≢false (sym t ∙ subst (λ w. p w ≡ false) (is_same d.name f.name same) n))
    | inr e ↦ e
  ]

  first_named : (fs : List Function) (f : Function) → found fs ≡ Some f → named f.name fs ≡ Some f
  first_named [] f e = absurd cc
  first_named (d ∷ ds) f e = elim (cases (p d.name)) [
    | inl t ↦ subst (λ g. named g.name (d ∷ ds) ≡ Some g) (found_first d f ds t e) (named_first d.name d ds (same_is d.name))
    | inr n ↦ let later = found_later d ds (Some f) n e in named_later f.name d ds (differ d f n (found_passes ds f later)) ∙ first_named ds f later
  ]

  found_none : (fs : List Function) → found fs ≡ None → (name : List ℕ) → has_name name fs ≡ true → p name ≡ false
  found_none [] e name h = absurd cc
  found_none (d ∷ ds) e name h = elim (cases (p d.name)) [
    | inl t ↦ let is : Some d ≡ None = sym (ap (λ b. cond b (Some d) (found ds)) t) ∙ e in absurd cc
    | inr n ↦ elim (cases (bytes_eq d.name name)) [
      | inl same ↦ subst (λ w. p w ≡ false) (is_same d.name name same) n
      | inr other ↦ found_none ds (found_later d ds None n e) name (or_true (bytes_eq d.name name) (has_name name ds) h other)
    ]
  ]

-- ---- what is left without a name

without_shorter : (name : List ℕ) (fs : List Function) → length (without name fs) ≤ length fs
without_shorter name [] = omega arith
without_shorter name (d ∷ ds) =
    elim (bytes_eq d.name name) as (λ t. length (cond (not t) (d ∷ without name ds) (without name ds)) ≤ suc (length ds)) [
      | true ↦ omega (arith, without_shorter name ds)
      | false ↦ omega (arith, without_shorter name ds)
    ]

pub shorter : (f : Function) (fs : List Function) → named f.name fs ≡ Some f → length (without f.name fs) < length fs
shorter f [] e = absurd cc
shorter f (d ∷ ds) e = elim (cases (bytes_eq d.name f.name)) [
  | inl t ↦ subst (λ gs. length gs < suc (length ds)) (sym (dropped f.name d ds t)) (omega (arith, without_shorter f.name ds))
  | inr n ↦ subst (λ gs. length gs < suc (length ds)) (sym (kept f.name d ds n)) (omega (arith, shorter f ds (sym (named_later f.name d ds n) ∙ e)))
]

has_without : (name other : List ℕ) (fs : List Function) → bytes_eq other name ≡ false → has_name name fs ≡ true → has_name name (without other fs) ≡ true
has_without name other [] n h = absurd cc
has_without name other (d ∷ ds) n h = elim (cases (bytes_eq d.name other)) [
  | inl t ↦
      let not_it : bytes_eq d.name name ≡ false = subst (λ w. bytes_eq w name ≡ false) (sym (is_same d.name other t)) n in
      subst (λ gs. has_name name gs ≡ true) (sym (dropped other d ds t)) (has_without name other ds n (or_true (bytes_eq d.name name) (has_name name ds) h not_it))
  | inr e ↦ subst (λ gs. has_name name gs ≡ true) (sym (kept other d ds e)) (elim (cases (bytes_eq d.name name)) [
    | inl t ↦ or_left (bytes_eq d.name name) (has_name name (without other ds)) t
    | inr f ↦ or_right (bytes_eq d.name name) (has_name name (without other ds)) (has_without name other ds n (or_true (bytes_eq d.name name) (has_name name ds) h f))
  ])
]

none_without : (name : List ℕ) (fs : List Function) → named name (without name fs) ≡ None
none_without name [] = refl
none_without name (d ∷ ds) = elim (cases (bytes_eq d.name name)) [
  | inl t ↦ ap (named name) (dropped name d ds t) ∙ none_without name ds
  | inr n ↦ ap (named name) (kept name d ds n) ∙ named_later name d (without name ds) n ∙ none_without name ds
]

named_without : (name other : List ℕ) (fs : List Function) (g : Function) → named name (without other fs) ≡ Some g → named name fs ≡ Some g
named_without name other [] g e = e
named_without name other (d ∷ ds) g e = elim (cases (bytes_eq d.name other)) [
  | inl t ↦
      let later : named name (without other ds) ≡ Some g = sym (ap (named name) (dropped other d ds t)) ∙ e in
      elim (cases (bytes_eq d.name name)) [
        | inl s ↦
            let same : other ≡ name = sym (is_same d.name other t) ∙ is_same d.name name s in
            let none : named name (without other ds) ≡ None = subst (λ w. named name (without w ds) ≡ None) (sym same) (none_without name ds) in
            let is : None ≡ Some g = sym none ∙ later in absurd cc
        | inr n ↦ named_later name d ds n ∙ named_without name other ds g later
      ]
  | inr k ↦
      let here : named name (d ∷ without other ds) ≡ Some g = sym (ap (named name) (kept other d ds k)) ∙ e in
      elim (cases (bytes_eq d.name name)) [
        | inl s ↦ named_first name d ds s ∙ sym (named_first name d (without other ds) s) ∙ here
        | inr n ↦ named_later name d ds n ∙ named_without name other ds g (sym (named_later name d (without other ds) n) ∙ here)
      ]
]

-- ---- what is reached

abbrev pub NamesIn : List Function → List Function → List (List ℕ) → Type 0
NamesIn left there names = (name : List ℕ) → is_among name names ≡ true → has_name name left ≡ true → has_name name there ≡ true

abbrev pub AreClosed : List Function → (there all : List Function) → Type 0
AreClosed left there all = AllByRecursion (λ g. NamesIn left there (functions_called g.code)) all

-- What is reached has all that the names name, and all that it calls itself.
pub record Reach (names : List (List ℕ)) (left there : List Function) : Type 0 where
  pub named_there : NamesIn left there names
  pub closed : AreClosed left there there
  pub are_named : AllByRecursion (λ g. named g.name left ≡ Some g) there

closed_on : (f : Function) (left there all : List Function) → AreClosed (without f.name left) there all → AreClosed left (f ∷ there) all
closed_on f left there [] h = tt
closed_on f left there (g ∷ all) h = (
  λ name c has. elim (cases (bytes_eq f.name name)) [
    | inl t ↦ or_left (bytes_eq f.name name) (has_name name there) t
    | inr n ↦ or_right (bytes_eq f.name name) (has_name name there) (h.0 name c (has_without name f.name left n has))
  ],
  closed_on f left there all h.1,
)

named_on : (other : List ℕ) (left all : List Function) → AllByRecursion (λ g. named g.name (without other left) ≡ Some g) all → AllByRecursion (λ g. named g.name left ≡ Some g) all
named_on other left [] h = tt
named_on other left (g ∷ all) h = (named_without g.name other left g h.0, named_on other left all h.1)

none_left : (names : List (List ℕ)) (left : List Function) → ((name : List ℕ) → has_name name left ≡ true → is_among name names ≡ false) → Reach names left []
none_left names left none = record {
  named_there = λ name c has. absurd (true≢false (sym c ∙ none name has));
  closed = tt;
  are_named = tt;
}

one_more : (names : List (List ℕ)) (left there : List Function) (f : Function) → named f.name left ≡ Some f → Reach (functions_called f.code ++ names) (without f.name left) there → Reach names left (f ∷ there)
one_more names left there f is r = record {
  named_there = λ name c has. into name (among_behind name (functions_called f.code) names c) has;
  closed = (λ name c has. into name (among_front name (functions_called f.code) names c) has, closed_on f left there there r.closed);
  are_named = (is, named_on f.name left there r.are_named);
}
  where
    into : NamesIn left (f ∷ there) (functions_called f.code ++ names)
    into name c has = elim (cases (bytes_eq f.name name)) [
      | inl t ↦ or_left (bytes_eq f.name name) (has_name name there) t
      | inr n ↦ or_right (bytes_eq f.name name) (has_name name there) (r.named_there name c (has_without name f.name left n has))
    ]

abbrev rest_of : ℕ → List (List ℕ) → List Function → Function → List Function
rest_of more names left f = reached more (functions_called f.code ++ names) (without f.name left)

reached_by : (names : List (List ℕ)) (left : List Function) (go : Function → List Function) → ((f : Function) → named f.name left ≡ Some f → Reach (functions_called f.code ++ names) (without f.name left) (go f)) →
    (o : Option Function) → find (λ f. is_among f.name names) left ≡ o → Reach names left (and_on o go)
reached_by names left go goes None e = none_left names left (found_none (λ name. is_among name names) left e)
reached_by names left go goes (Some f) e = let is = first_named (λ name. is_among name names) left f e in one_more names left (go f) f is (goes f is)

pub reaches : (more : ℕ) (names : List (List ℕ)) (left : List Function) → length left ≤ more → Reach names left (reached more names left)
reaches zero names [] h = none_left names [] (λ name has. absurd cc)
reaches zero names (f ∷ left) h = absurd (omega arith)
reaches (suc more) names left h =
    reached_by names left (rest_of more names left) (λ f is. reaches more (functions_called f.code ++ names) (without f.name left) (omega (arith, shorter f left is)))
    (find (λ f. is_among f.name names) left) refl

called_by : (names : List (List ℕ)) (left : List Function) (go : Function → List Function) → ((f : Function) → AreCalled (functions_called f.code ++ names) (go f)) →
    (o : Option Function) → find (λ f. is_among f.name names) left ≡ o → AreCalled names (and_on o go)
called_by names left go goes None e = tt
called_by names left go goes (Some f) e = (found_passes (λ name. is_among name names) left f e, goes f)

are_called : (more : ℕ) (names : List (List ℕ)) (left : List Function) → AreCalled names (reached more names left)
are_called zero names left = tt
are_called (suc more) names left =
    called_by names left (rest_of more names left) (λ f. are_called more (functions_called f.code ++ names) (without f.name left)) (find (λ f. is_among f.name names) left) refl

pub only_called_are_there : OnlyCalledAreThere
only_called_are_there names functions = are_called (length functions) names functions

named_has : (name : List ℕ) (fs : List Function) (g : Function) → named name fs ≡ Some g → has_name name fs ≡ true
named_has name [] g e = absurd cc
named_has name (d ∷ ds) g e = elim (cases (bytes_eq d.name name)) [
  | inl t ↦ or_left (bytes_eq d.name name) (has_name name ds) t
  | inr n ↦ or_right (bytes_eq d.name name) (has_name name ds) (named_has name ds g (sym (named_later name d ds n) ∙ e))
]

-- What is reached was left.
pub reached_has : (left all : List Function) → AllByRecursion (λ g. named g.name left ≡ Some g) all → (name : List ℕ) → has_name name all ≡ true → has_name name left ≡ true
reached_has left [] h name has = absurd cc
reached_has left (g ∷ all) h name has = elim (cases (bytes_eq g.name name)) [
  | inl t ↦ subst (λ w. has_name w left ≡ true) (is_same g.name name t) (named_has g.name left g h.0)
  | inr n ↦ reached_has left all h.1 name (or_true (bytes_eq g.name name) (has_name name all) has n)
]

-- ---- the functions of a module, with their codes

module _ (source : Module) (code : Codes) (name : List ℕ) where
  abbrev with_codes : List Definition → List Function
  with_codes ds = map (function_of source code) ds

  pub coded_named : (ds : List Definition) (f : Definition) → definition_named name ds ≡ Some f → named name (with_codes ds) ≡ Some (function_of source code f)
  coded_named [] f e = absurd cc
  coded_named (d ∷ ds) f e = elim (cases (bytes_eq d.name name)) [
    | inl t ↦
        let is : Some d ≡ Some f = sym (ap (λ b. cond b (Some d) (definition_named name ds)) t) ∙ e in
        let same : d ≡ f = cc in
        named_first name (function_of source code d) (with_codes ds) t ∙ ap (λ d. Some (function_of source code d)) same
    | inr n ↦ named_later name (function_of source code d) (with_codes ds) n ∙ coded_named ds f (sym (ap (λ b. cond b (Some d) (definition_named name ds)) n) ∙ e)
  ]

  pub coded_has : (ds : List Definition) (f : Definition) → definition_named name ds ≡ Some f → has_name name (with_codes ds) ≡ true
  coded_has ds f e = named_has name (with_codes ds) (function_of source code f) (coded_named ds f e)

  pub coded_none : (ds : List Definition) → definition_named name ds ≡ None → has_name name (with_codes ds) ≡ false
  coded_none [] e = refl
  coded_none (d ∷ ds) e = elim (cases (bytes_eq d.name name)) [
    | inl t ↦ let is : Some d ≡ None = sym (ap (λ b. cond b (Some d) (definition_named name ds)) t) ∙ e in absurd cc
    | inr n ↦ ap (λ b. b || has_name name (with_codes ds)) n ∙ coded_none ds (sym (ap (λ b. cond b (Some d) (definition_named name ds)) n) ∙ e)
  ]

-- ---- sums

-- No more is reached than is left, by whatever measure.
abbrev pub total : (Function → ℕ) → List Function → ℕ
total h [] = 0
total h (f ∷ fs) = h f + total h fs

total_without : (h : Function → ℕ) (name : List ℕ) (fs : List Function) → total h (without name fs) ≤ total h fs
total_without h name [] = omega arith
total_without h name (d ∷ ds) =
    elim (bytes_eq d.name name) as (λ t. total h (cond (not t) (d ∷ without name ds) (without name ds)) ≤ h d + total h ds) [
      | true ↦ omega (arith, total_without h name ds)
      | false ↦ omega (arith, total_without h name ds)
    ]

total_taken : (h : Function → ℕ) (f : Function) (fs : List Function) → named f.name fs ≡ Some f → h f + total h (without f.name fs) ≤ total h fs
total_taken h f [] e = absurd cc
total_taken h f (d ∷ ds) e = elim (cases (bytes_eq d.name f.name)) [
  | inl t ↦
      let is : Some d ≡ Some f = sym (named_first f.name d ds t) ∙ e in
      let same : d ≡ f = cc in
      subst (λ gs. h f + total h gs ≤ h d + total h ds) (sym (dropped f.name d ds t)) (subst (λ g. h g + total h (without f.name ds) ≤ h d + total h ds) same (omega (arith, total_without h f.name ds)))
  | inr n ↦ subst (λ gs. h f + total h gs ≤ h d + total h ds) (sym (kept f.name d ds n)) (omega (arith, total_taken h f ds (sym (named_later f.name d ds n) ∙ e)))
]

total_by : (h : Function → ℕ) (names : List (List ℕ)) (left : List Function) (go : Function → List Function) → ((f : Function) → total h (go f) ≤ total h (without f.name left)) →
    (o : Option Function) → find (λ f. is_among f.name names) left ≡ o → total h (and_on o go) ≤ total h left
total_by h names left go goes None e = omega arith
total_by h names left go goes (Some f) e = omega (arith, total_taken h f left (first_named (λ name. is_among name names) left f e), goes f)

pub total_reached : (h : Function → ℕ) (more : ℕ) (names : List (List ℕ)) (left : List Function) → total h (reached more names left) ≤ total h left
total_reached h zero names left = omega arith
total_reached h (suc more) names left =
    total_by h names left (rest_of more names left) (λ f. total_reached h more (functions_called f.code ++ names) (without f.name left))
    (find (λ f. is_among f.name names) left) refl
