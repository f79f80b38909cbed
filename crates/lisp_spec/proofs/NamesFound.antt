-- What is found by a name, and the names of an environment.
use Rattle.std.proofs.Common.{◌≡◌, ℕ, Bool, true, false, cond, List, [], ◌∷◌, ◌++◌, map, find, inl, inr, Option, Some, None, bytes_eq, refl, sym, ◌∙◌, ap, subst, true≢false}
use Rattle.std.specs.List.{AllByRecursion}
use Rattle.lisp_spec.specs.Parameters.{Side, Parameter}
use Rattle.lisp_spec.specs.ModuleFaults.{is_among}
use Rattle.lisp_spec.specs.Expressions.{Expression, Operands}
use Rattle.lisp_spec.specs.Environments.{Environment, Empty, Bound, Astray, Stands, Binding, ToFound, ToNoStep, ToExpression, ToNothing, binding_of, bound_to, all_bound, operand_at, standing, expressions_bound}
use Rattle.lisp_spec.proofs.CycleProofs.{cases, not_same, or_false, or_true}

-- ---- what is found by a name

module _ {A : Type 0} (label : A → List ℕ) (name : List ℕ) where
  abbrev pub found : List A → Option A
  found xs = find (λ x. bytes_eq (label x) name) xs

  -- What is among the first isn't looked for behind them.
  pub found_first : (xs ys : List A) → is_among name (map label xs) ≡ true → found (xs ++ ys) ≡ found xs
  found_first [] ys e = absurd cc
  found_first (x ∷ xs) ys e = elim (cases (bytes_eq (label x) name)) [
    | inl t ↦ rw t refl
    | inr f ↦ rw f (found_first xs ys (or_true (bytes_eq name (label x)) (is_among name (map label xs)) e (not_same name (label x) f)))
  ]

  pub not_found : (xs : List A) → found xs ≡ None → is_among name (map label xs) ≡ false
  not_found [] e = refl
  not_found (x ∷ xs) e = elim (cases (bytes_eq (label x) name)) [
    | inl t ↦ absurd (is_none x (found xs) (subst (λ b. cond b (Some x) (found xs) ≡ None) t e))
    | inr f ↦ rw (not_same name (label x) f) (not_found xs (subst (λ b. cond b (Some x) (found xs) ≡ None) f e))
  ]
    where
      is_none : (x : A) (other : Option A) → cond true (Some x) other ≡ None → ⊥
      is_none x other e = cc

  pub found_has : (P : A → Type 0) (xs : List A) (y : A) → AllByRecursion P xs → found xs ≡ Some y → P y
  found_has P [] y h e = absurd cc
  found_has P (x ∷ xs) y h e = by (bytes_eq (label x) name) (found_has P xs y h.1) e
    where
      by : (b : Bool) → (found xs ≡ Some y → P y) → cond b (Some x) (found xs) ≡ Some y → P y
      by true go e = let is : x ≡ y = cc in subst P is h.0
      by false go e = go e

  pub found_none : (xs : List A) → is_among name (map label xs) ≡ false → found xs ≡ None
  found_none [] e = refl
  found_none (x ∷ xs) e = let o = or_false (bytes_eq name (label x)) (is_among name (map label xs)) e in rw (not_same (label x) name o.0) (found_none xs o.1)

  pub found_some : (xs : List A) → is_among name (map label xs) ≡ true → (x : A) × (found xs ≡ Some x)
  found_some [] e = absurd cc
  found_some (x ∷ xs) e = elim (cases (bytes_eq (label x) name)) [
    | inl t ↦ (x, rw t refl)
    | inr f ↦ let h = found_some xs (or_true (bytes_eq name (label x)) (is_among name (map label xs)) e (not_same name (label x) f)) in (h.0, rw f h.1)
  ]

pub among_behind : (name : List ℕ) (xs ys : List (List ℕ)) → is_among name (xs ++ ys) ≡ true → is_among name xs ≡ false → is_among name ys ≡ true
among_behind name [] ys e n = e
among_behind name (x ∷ xs) ys e n =
    let o = or_false (bytes_eq name x) (is_among name xs) n in among_behind name xs ys (or_true (bytes_eq name x) (is_among name (xs ++ ys)) e o.0) o.1

pub among_both : (name : List ℕ) (xs ys : List (List ℕ)) → is_among name xs ≡ true → is_among name (xs ++ ys) ≡ true
among_both name [] ys e = absurd cc
among_both name (x ∷ xs) ys e = elim (cases (bytes_eq name x)) [
  | inl t ↦ rw t refl
  | inr f ↦ rw f (among_both name xs ys (or_true (bytes_eq name x) (is_among name xs) e f))
]

pub among_first : (name : List ℕ) (xs ys : List (List ℕ)) → is_among name (xs ++ ys) ≡ true → is_among name ys ≡ false → is_among name xs ≡ true
among_first name xs ys e n = elim (cases (is_among name xs)) [
  | inl t ↦ t
  | inr f ↦ absurd (true≢false (sym (among_behind name xs ys e f) ∙ n))
]

-- ---- environments

module _ {A : Type 0} where
  abbrev pub names_in : Environment A → List (List ℕ)
  names_in Empty = []
  names_in (Bound name found others) = name ∷ names_in others
  names_in (Astray name others) = name ∷ names_in others
  names_in (Stands name e there others) = name ∷ names_in others

  no_binding : (name other : List ℕ) (binding : Binding A) (others : Environment A) → (binding ≡ ToNothing → ⊥) → (binding_of name others ≡ ToNothing → is_among name (names_in others) ≡ false) →
      cond (bytes_eq other name) binding (binding_of name others) ≡ ToNothing → is_among name (other ∷ names_in others) ≡ false
  no_binding name other binding others some later e = elim (cases (bytes_eq other name)) [
    | inl t ↦ absurd (some (subst (λ b. cond b binding (binding_of name others) ≡ ToNothing) t e))
    | inr f ↦ rw (not_same name other f) (later (subst (λ b. cond b binding (binding_of name others) ≡ ToNothing) f e))
  ]

  pub nothing_bound : (name : List ℕ) (env : Environment A) → binding_of name env ≡ ToNothing → is_among name (names_in env) ≡ false
  nothing_bound name Empty e = refl
  nothing_bound name (Bound other found others) e = no_binding name other (ToFound found) others (λ e. cc) (nothing_bound name others) e
  nothing_bound name (Astray other others) e = no_binding name other ToNoStep others (λ e. cc) (nothing_bound name others) e
  nothing_bound name (Stands other x there others) e = no_binding name other (ToExpression x there) others (λ e. cc) (nothing_bound name others) e

  pub bound_names : (ps : List Parameter) (lead : List Side → Option A) → names_in (all_bound lead ps) ≡ map (λ p. p.name) ps
  bound_names [] lead = refl
  bound_names (p ∷ ps) lead = by (lead p.path) ∙ ap (λ names. p.name ∷ names) (bound_names ps lead)
    where
      by : (at : Option A) → names_in (bound_to p.name at (all_bound lead ps)) ≡ p.name ∷ names_in (all_bound lead ps)
      by None = refl
      by (Some found) = refl

  pub standing_names : (ps : List Parameter) (operands : Operands) (caller : Environment A) → names_in (expressions_bound ps operands caller) ≡ map (λ p. p.name) ps
  standing_names [] operands caller = refl
  standing_names (p ∷ ps) operands caller = by (operand_at p.path operands) ∙ ap (λ names. p.name ∷ names) (standing_names ps operands caller)
    where
      by : (e : Option Expression) → names_in (standing p.name e caller (expressions_bound ps operands caller)) ≡ p.name ∷ names_in (expressions_bound ps operands caller)
      by None = refl
      by (Some e) = refl
