-- Walks of trees of parameters, with what is left of a tree on a stack whose next form is the last.
use Rattle.std.proofs.Common.{◌≡◌, ℕ, ◌+◌, ◌<◌, ◌==◌, length, Bool, true, false, ◌&&◌, ◌||◌, List, [], ◌∷◌, ◌++◌, map, reverse, Some, refl, sym, ap, ◌∙◌, cond, arith, rules, append-nil, append_assoc, bytes_eq}
use Rattle.std.proofs.lemmas.List.{reverse-append}
use Rattle.std.proofs.lemmas.List.Folds.{list_any-append}
use Rattle.std.specs.Borrow.{Bor}
use Rattle.lisp_read.specs.declared.form.Form as seen
use Rattle.lisp_read.specs.Forms.{Form, Atom, Symbol, Pair}
use Rattle.lisp_read.specs.Views.{form_of}
use Rattle.lisp_read.specs.Copies.{size}
use Rattle.lisp_spec.specs.Forms.{Place}
use Rattle.lisp_spec.specs.Parameters.{Side, ToFirst, ToRest, Parameter, below, parameters, is_parameter_tree}
use Rattle.lisp_spec.specs.ModuleFaults.{NameTwice, fault, is_among}
use Rattle.lisp_spec.specs.Inclusion.{second_of_a_name}

abbrev pub Left : Type 0
Left = List (Bor seen.Form)

-- ---- what is left falls

abbrev pub left_size : Left → ℕ
left_size [] = 0
left_size (f ∷ more) = size (form_of f.now) + left_size more

pub left_size_push : (left : Left) (f : Bor seen.Form) → left_size (left ++ f ∷ []) ≡ left_size left + size (form_of f.now)
left_size_push [] f = omega arith
left_size_push (g ∷ more) f = omega (arith, left_size_push more f)

-- ---- whether all are trees

abbrev pub are_trees : Left → Bool
are_trees [] = true
are_trees (f ∷ more) = is_parameter_tree (form_of f.now) && are_trees more

and_true : (a : Bool) → (a && true) ≡ a
and_true true = refl
and_true false = refl

and_assoc : (a b c : Bool) → (a && (b && c)) ≡ ((a && b) && c)
and_assoc true b c = refl
and_assoc false b c = refl

and_turned : (a b c : Bool) → (a && (b && c)) ≡ ((a && c) && b)
and_turned true true true = refl
and_turned true true false = refl
and_turned true false true = refl
and_turned true false false = refl
and_turned false b c = refl

pub are_trees_push : (left : Left) (f : Bor seen.Form) → are_trees (left ++ f ∷ []) ≡ (are_trees left && is_parameter_tree (form_of f.now))
are_trees_push [] f = and_true (is_parameter_tree (form_of f.now))
are_trees_push (g ∷ more) f = ap (λ r. is_parameter_tree (form_of g.now) && r) (are_trees_push more f) ∙ and_assoc (is_parameter_tree (form_of g.now)) (are_trees more) (is_parameter_tree (form_of f.now))

-- a pair is a tree where its parts are
pub pair_is_trees : (left : Left) (pair first rest : Bor seen.Form) (place : Place) (a b : Form) →
    form_of pair.now ≡ Pair place a b → form_of first.now ≡ a → form_of rest.now ≡ b →
    are_trees (left ++ pair ∷ []) ≡ are_trees ((left ++ rest ∷ []) ++ first ∷ [])
pair_is_trees left pair first rest place a b p f r =
    are_trees_push left pair
    ∙ ap (λ t. are_trees left && is_parameter_tree t) p
    ∙ and_turned (are_trees left) (is_parameter_tree a) (is_parameter_tree b)
    ∙ ap (λ t. (are_trees left && is_parameter_tree b) && is_parameter_tree t) (sym f)
    ∙ ap (λ t. (are_trees left && is_parameter_tree t) && is_parameter_tree (form_of first.now)) (sym r)
    ∙ ap (λ t. t && is_parameter_tree (form_of first.now)) (sym (are_trees_push left rest))
    ∙ sym (are_trees_push (left ++ rest ∷ []) first)

-- ---- the first name that comes twice

-- what is next stands first
abbrev pub left_parameters : Left → List Parameter
left_parameters [] = []
left_parameters (f ∷ more) = left_parameters more ++ parameters (form_of f.now)

pub left_parameters_push : (left : Left) (f : Bor seen.Form) → left_parameters (left ++ f ∷ []) ≡ parameters (form_of f.now) ++ left_parameters left
left_parameters_push [] f = sym (append-nil (parameters (form_of f.now)))
left_parameters_push (g ∷ more) f = ap (λ r. r ++ parameters (form_of g.now)) (left_parameters_push more f) ∙ append_assoc (parameters (form_of f.now)) (left_parameters more) (parameters (form_of g.now))

-- Paths are no matter.
second_below : (earlier : List (List ℕ)) (side : Side) (ps qs : List Parameter) → second_of_a_name earlier (map (below side) ps ++ qs) ≡ second_of_a_name earlier (ps ++ qs)
second_below earlier side [] qs = refl
second_below earlier side (p ∷ ps) qs = ap (λ r. cond (is_among p.name earlier) (Some (fault NameTwice p.place)) r) (second_below (p.name ∷ earlier) side ps qs)

second_behind : (earlier : List (List ℕ)) (side : Side) (ps qs rs : List Parameter) → second_of_a_name earlier (ps ++ (map (below side) qs ++ rs)) ≡ second_of_a_name earlier (ps ++ (qs ++ rs))
second_behind earlier side [] qs rs = second_below earlier side qs rs
second_behind earlier side (p ∷ ps) qs rs = ap (λ r. cond (is_among p.name earlier) (Some (fault NameTwice p.place)) r) (second_behind (p.name ∷ earlier) side ps qs rs)

-- a pair's parameters are those of its first and then those of its rest
pub pair_has_both : (earlier : List (List ℕ)) (left : Left) (pair first rest : Bor seen.Form) (place : Place) (a b : Form) →
    form_of pair.now ≡ Pair place a b → form_of first.now ≡ a → form_of rest.now ≡ b →
    second_of_a_name earlier (left_parameters (left ++ pair ∷ [])) ≡ second_of_a_name earlier (left_parameters ((left ++ rest ∷ []) ++ first ∷ []))
pair_has_both earlier left pair first rest place a b p f r =
    let more = left_parameters left in
    ap (second_of_a_name earlier) (left_parameters_push left pair ∙ ap (λ t. parameters t ++ more) p ∙ append_assoc (map (below ToFirst) (parameters a)) (map (below ToRest) (parameters b)) more)
    ∙ second_below earlier ToFirst (parameters a) (map (below ToRest) (parameters b) ++ more)
    ∙ second_behind earlier ToRest (parameters a) (parameters b) more
    ∙ ap (second_of_a_name earlier) (
    ap (λ t. parameters t ++ (parameters b ++ more)) (sym f)
    ∙ ap (λ t. parameters (form_of first.now) ++ (parameters t ++ more)) (sym r)
    ∙ ap (λ t. parameters (form_of first.now) ++ t) (sym (left_parameters_push left rest))
    ∙ sym (left_parameters_push (left ++ rest ∷ []) first))

or_false : (a : Bool) → (a || false) ≡ a
or_false true = refl
or_false false = refl

or_comm : (a b : Bool) → (a || b) ≡ (b || a)
or_comm true true = refl
or_comm true false = refl
or_comm false true = refl
or_comm false false = refl

-- what is among names is among them the other way round
pub among_reversed : (name : List ℕ) (names : List (List ℕ)) → is_among name (reverse names) ≡ is_among name names
among_reversed name [] = refl
among_reversed name (n ∷ names) =
    ap (is_among name) (reverse-append (n ∷ []) names)
    ∙ list_any-append (bytes_eq name) (reverse names) (n ∷ [])
    ∙ ap (λ r. r || is_among name (n ∷ [])) (among_reversed name names)
    ∙ or_comm (is_among name names) (is_among name (n ∷ []))
    ∙ ap (λ r. r || is_among name names) (or_false (bytes_eq name n))

-- ---- one form of what is left

pub size_of_next : (left more : Left) (part : Bor seen.Form) → left ≡ more ++ part ∷ [] → left_size left ≡ left_size more + size (form_of part.now)
size_of_next left more part e = ap left_size e ∙ left_size_push more part

one_at_least : (form : Form) → 0 < size form
one_at_least (Atom place bytes) = omega arith
one_at_least (Symbol place name) = omega arith
one_at_least (Pair place first rest) = omega (arith, one_at_least first)

pub next_falls : (left more : Left) (part : Bor seen.Form) → left ≡ more ++ part ∷ [] → left_size more < left_size left
next_falls left more part e = omega (arith, size_of_next left more part e, one_at_least (form_of part.now))

pub parts_fall : (left more : Left) (pair first rest : Bor seen.Form) (place : Place) (a b : Form) → left ≡ more ++ pair ∷ [] →
    form_of pair.now ≡ Pair place a b → form_of first.now ≡ a → form_of rest.now ≡ b →
    left_size ((more ++ rest ∷ []) ++ first ∷ []) < left_size left
parts_fall left more pair first rest place a b e p f r =
    omega (arith, size_of_next left more pair e, ap size p, ap size f, ap size r, left_size_push (more ++ rest ∷ []) first, left_size_push more rest)

pub next_is_tree : (left more : Left) (part : Bor seen.Form) → left ≡ more ++ part ∷ [] → is_parameter_tree (form_of part.now) ≡ true → are_trees left ≡ are_trees more
next_is_tree left more part e t = ap are_trees e ∙ are_trees_push more part ∙ ap (λ b. are_trees more && b) t ∙ and_true (are_trees more)

and_false : (a : Bool) → (a && false) ≡ false
and_false true = refl
and_false false = refl

pub next_is_none : (left more : Left) (part : Bor seen.Form) → left ≡ more ++ part ∷ [] → is_parameter_tree (form_of part.now) ≡ false → are_trees left ≡ false
next_is_none left more part e t = ap are_trees e ∙ are_trees_push more part ∙ ap (λ b. are_trees more && b) t ∙ and_false (are_trees more)

pub atom_is_tree : (place : Place) (bytes : List ℕ) → is_parameter_tree (Atom place bytes) ≡ (length bytes == 0)
atom_is_tree place [] = refl
atom_is_tree place (b ∷ bytes) = search rules

-- the same of the first name that comes twice
pub next_has_none : (earlier : List (List ℕ)) (left more : Left) (part : Bor seen.Form) → left ≡ more ++ part ∷ [] → parameters (form_of part.now) ≡ [] →
    second_of_a_name earlier (left_parameters left) ≡ second_of_a_name earlier (left_parameters more)
next_has_none earlier left more part e t = ap (second_of_a_name earlier) (ap left_parameters e ∙ left_parameters_push more part ∙ ap (λ ps. ps ++ left_parameters more) t)

second_if : (names : List (List ℕ)) (name : List ℕ) (place : Place) (more : List Parameter) (among : Bool) → is_among name names ≡ among →
    second_of_a_name (reverse names) (record { name = name; place = place; path = [] } ∷ more) ≡ cond among (Some (fault NameTwice place)) (second_of_a_name (name ∷ reverse names) more)
second_if names name place more among e = ap (λ b. cond b (Some (fault NameTwice place)) (second_of_a_name (name ∷ reverse names) more)) (among_reversed name names ∙ e)

pub next_is_second : (names : List (List ℕ)) (left more : Left) (part : Bor seen.Form) (name : List ℕ) (place : Place) → left ≡ more ++ part ∷ [] →
    form_of part.now ≡ Symbol place name → is_among name names ≡ true →
    second_of_a_name (reverse names) (left_parameters left) ≡ Some (fault NameTwice place)
next_is_second names left more part name place e t among =
    ap (second_of_a_name (reverse names)) (ap left_parameters e ∙ left_parameters_push more part ∙ ap (λ f. parameters f ++ left_parameters more) t)
    ∙ second_if names name place (left_parameters more) true among

pub next_is_first : (names after : List (List ℕ)) (left more : Left) (part : Bor seen.Form) (name : List ℕ) (place : Place) → left ≡ more ++ part ∷ [] →
    form_of part.now ≡ Symbol place name → is_among name names ≡ false → after ≡ names ++ name ∷ [] →
    second_of_a_name (reverse names) (left_parameters left) ≡ second_of_a_name (reverse after) (left_parameters more)
next_is_first names after left more part name place e t among a =
    ap (second_of_a_name (reverse names)) (ap left_parameters e ∙ left_parameters_push more part ∙ ap (λ f. parameters f ++ left_parameters more) t)
    ∙ second_if names name place (left_parameters more) false among
    ∙ ap (λ earlier. second_of_a_name earlier (left_parameters more)) (sym (ap reverse a ∙ reverse-append names (name ∷ [])))
