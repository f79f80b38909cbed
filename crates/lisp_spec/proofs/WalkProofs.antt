-- What the walk along the definitions keeps.
use Rattle.std.proofs.Common.{◌≡◌, ℕ, zero, suc, Bool, true, false, not, cond, List, [], ◌∷◌, ◌++◌, map, filter, length, bytes_eq, Option, Some, None, Ok, refl, sym, ◌∙◌, ap, subst, append_assoc, ◌⊎◌, inl, inr, true≢false}
use Rattle.std.proofs.lemmas.List.{map-append}
use Rattle.lisp_spec.specs.Forms.{Form, Place, place_of_form}
use Rattle.lisp_spec.specs.Parameters.{Parameter, parameters}
use Rattle.lisp_spec.specs.Heads.{is_reserved}
use Rattle.lisp_spec.specs.Modules.{Constant, Module}
use Rattle.lisp_spec.specs.Macros.{Macro, turns_of_a_module}
use Rattle.lisp_spec.specs.Expansion.{expansion}
use Rattle.lisp_spec.specs.ModuleFaults.{NotAModule, NameTwice, Fault, fault, Judged, unless, is_among}
use Rattle.lisp_spec.specs.Definitions as roles
use Rattle.lisp_spec.specs.Definitions.{Role, Function, Inline, Written, Entry, Defines, Includes, Shapeless, entry_of, names_of, is_role, macros_in, without_macros, constants_in, inlines_in, definition}
use Rattle.lisp_spec.specs.Constants.{constants_after}
use Rattle.lisp_spec.specs.Inclusion.{Walk, most_texts, start, second_of_a_name, params_fault, name_fault, defined, Include, walked_entry, walked, forms_of_library, Texts, next_text, entered, with_text, included_within, included, Parts, definitions_of}
use Rattle.lisp_spec.specs.ModuleOf.{macro_of, expanded, with_body, expanded_all, Draft, draft_with, module_with}
use Rattle.lisp_spec.specs.ModuleLaws.{Distinct, all_names, AreDistinct, ParametersAreDistinct, DefinitionsAreNamed}
use Rattle.lisp_spec.specs.Modules.{definition_names, constant_names}
use Rattle.std.specs.List.{AllByRecursion}
use Rattle.lisp_spec.proofs.CycleProofs.{or_false, or_left, or_right, not_same, is_same, same_is, cases}
use Rattle.lisp_spec.proofs.ModuleProofs.{names_after, then_ok, ok, ok_is, unless_ok, Stages, stages, each_append, each_weaker, each_filter, NoConstant, of_functions, of_all_inlines}

abbrev pub HasParams : Written → Type 0
HasParams d = AreDistinct d.params

abbrev pub IsFree : List ℕ → Type 0
IsFree name = is_reserved name ≡ false

-- what the walk keeps of its definitions
pub record Fine (definitions : List Written) : Type 0 where
  pub params : AllByRecursion HasParams definitions
  pub free : AllByRecursion IsFree (names_of definitions)
  pub once : Distinct (names_of definitions)

-- ---- parameters

record ComeOnce (earlier : List (List ℕ)) (ps : List Parameter) : Type 0 where
  once : Distinct (map (λ p. p.name) ps)
  later : (name : List ℕ) → is_among name earlier ≡ true → is_among name (map (λ p. p.name) ps) ≡ false

first_comes_once : (earlier : List (List ℕ)) (p : Parameter) (ps : List Parameter) (there : Bool) → is_among p.name earlier ≡ there →
    cond there (Some (fault NameTwice p.place)) (second_of_a_name (p.name ∷ earlier) ps) ≡ None →
    (second_of_a_name (p.name ∷ earlier) ps ≡ None → ComeOnce (p.name ∷ earlier) ps) → ComeOnce earlier (p ∷ ps)
first_comes_once earlier p ps true t e go = absurd cc
first_comes_once earlier p ps false t e go =
    let rest = go e in
    record {
      once = (rest.later p.name (or_left (bytes_eq p.name p.name) (is_among p.name earlier) (same_is p.name)), rest.once);
      later = λ name among. other name among (cases (bytes_eq name p.name)) (rest.later name (or_right (bytes_eq name p.name) (is_among name earlier) among));
    }
  where
    other : (name : List ℕ) → is_among name earlier ≡ true → (bytes_eq name p.name ≡ true) ⊎ (bytes_eq name p.name ≡ false) →
        is_among name (map (λ p. p.name) ps) ≡ false → is_among name (map (λ p. p.name) (p ∷ ps)) ≡ false
    other name among (inl same) behind = absurd (true≢false (sym among ∙ ap (λ n. is_among n earlier) (is_same name p.name same) ∙ t))
    other name among (inr differs) behind = rw differs behind

come_once : (earlier : List (List ℕ)) (ps : List Parameter) → second_of_a_name earlier ps ≡ None → ComeOnce earlier ps
come_once earlier [] e = record { once = tt; later = λ name among. refl }
come_once earlier (p ∷ ps) e = first_comes_once earlier p ps (is_among p.name earlier) refl e (come_once (p.name ∷ earlier) ps)

distinct_params : (params : Form) → params_fault params ≡ None → AreDistinct params
distinct_params params e = (come_once [] (parameters params) e).once

-- ---- the walk

push : (x : List ℕ) (xs : List (List ℕ)) → Distinct xs → is_among x xs ≡ false → Distinct (xs ++ x ∷ [])
push x [] d n = (refl, tt)
push x (y ∷ ys) d n =
    let o = or_false (bytes_eq x y) (is_among x ys) n in
    (not_among_push y x ys d.0 (not_same y x o.0), push x ys d.1 o.1)
  where
    not_among_push : (y x : List ℕ) (ys : List (List ℕ)) → is_among y ys ≡ false → bytes_eq y x ≡ false → is_among y (ys ++ x ∷ []) ≡ false
    not_among_push y x [] n e = rw e refl
    not_among_push y x (z ∷ zs) n e = let o = or_false (bytes_eq y z) (is_among y zs) n in rw o.0 (not_among_push y x zs o.1 e)

pub record Named (reserved twice : Bool) (params : Option Fault) : Type 0 where
  pub is_free : reserved ≡ false
  pub is_new : twice ≡ false
  pub are_distinct : params ≡ None

named : (reserved twice : Bool) (f g : Fault) (params : Option Fault) → cond reserved (Some f) (cond twice (Some g) params) ≡ None → Named reserved twice params
named true twice f g params e = absurd cc
named false true f g params e = absurd cc
named false false f g params e = record { is_free = refl; is_new = refl; are_distinct = e }

defined_keeps : (d : Written) (walk next : Walk) → defined d walk ≡ Ok next → Fine walk.definitions → Fine next.definitions
defined_keeps d walk next e h =
    let u = unless_ok (name_fault walk d) (record walk { definitions = walk.definitions ++ d ∷ [] }) next e in
    let n = named (is_reserved d.name) (is_among d.name (names_of walk.definitions)) (fault NotAModule d.name_place) (fault NameTwice d.name_place) (params_fault d.params) u.0 in
    let names = map-append (λ d. d.name) walk.definitions (d ∷ []) in
    subst (λ w. Fine w.definitions) u.1 (record {
      params = each_append HasParams walk.definitions (d ∷ []) h.params (distinct_params d.params n.are_distinct, tt);
      free = subst (AllByRecursion IsFree) (sym names) (each_append IsFree (names_of walk.definitions) (d.name ∷ []) h.free (n.is_free, tt));
      once = subst Distinct (sym names) (push d.name (names_of walk.definitions) h.once n.is_new);
    })

abbrev Keeps : Include → Type 0
Keeps include = (place : Place) (name : List ℕ) (walk next : Walk) → include place name walk ≡ Ok next → Fine walk.definitions → Fine next.definitions

entry_keeps : (include : Include) → Keeps include → (place : Place) (entry : Entry) (walk next : Walk) → walked_entry include place entry walk ≡ Ok next →
    Fine walk.definitions → Fine next.definitions
entry_keeps include keeps place (Defines d) walk next e h = defined_keeps d walk next e h
entry_keeps include keeps place (Includes name) walk next e h = keeps place name walk next e h
entry_keeps include keeps place Shapeless walk next e h = absurd cc

walked_keeps : (include : Include) → Keeps include → (forms : List Form) (walk next : Walk) → walked include forms walk ≡ Ok next →
    Fine walk.definitions → Fine next.definitions
walked_keeps include keeps [] walk next e h = subst (λ w. Fine w.definitions) (ok_is walk next e) h
walked_keeps include keeps (f ∷ forms) walk next e h =
    let s = then_ok (walked_entry include (place_of_form f) (entry_of f) walk) (walked include forms) next e in
    walked_keeps include keeps forms s.0 next s.2 (entry_keeps include keeps (place_of_form f) (entry_of f) walk s.0 s.1 h)

text_keeps : (include : Include) → Keeps include → (place : Place) (name : List ℕ) (walk next : Walk) (text : Option (List ℕ)) →
    with_text include place name walk text ≡ Ok next → Fine walk.definitions → Fine next.definitions
text_keeps include keeps place name walk next None e h = absurd cc
text_keeps include keeps place name walk next (Some text) e h =
    let s = then_ok (forms_of_library (suc (length walk.included)) text) (λ forms. walked include forms (entered name walk)) next e in
    walked_keeps include keeps s.0 (entered name walk) next s.2 h

known_keeps : (known : Bool) (walk next : Walk) (other : Judged Walk) → cond known (ok walk) other ≡ Ok next →
    Fine walk.definitions → (other ≡ Ok next → Fine next.definitions) → Fine next.definitions
known_keeps true walk next other e h go = subst (λ w. Fine w.definitions) (ok_is walk next e) h
known_keeps false walk next other e h go = go e

include_keeps : (bound : ℕ) (texts : Texts) → Keeps (included_within bound texts)
include_keeps zero texts place name walk next e h = absurd cc
include_keeps (suc bound) texts place name walk next e h =
    known_keeps (is_among name walk.included) walk next (with_text (included_within bound texts) place name walk (next_text texts walk name)) e h
    (λ other. text_keeps (included_within bound texts) (include_keeps bound texts) place name walk next (next_text texts walk name) other h)

-- ---- expansion changes bodies alone

same_names : (table : List Macro) (written : List Written) (turns : ℕ) (done : List Written × ℕ) → expanded_all table written turns ≡ Ok done → names_of done.0 ≡ names_of written
same_names table [] turns done e = ap (λ t. names_of t.0) (sym (ok_is ([], turns) done e))
same_names table (d ∷ written) turns done e =
    let b = then_ok (expanded (expansion table d.body turns)) _ done e in
    let o = then_ok (expanded_all table written b.0.1) _ done b.2 in
    ap (λ t. names_of t.0) (sym (ok_is (with_body d b.0.0 ∷ o.0.0, o.0.1) done o.2)) ∙ ap (λ names. d.name ∷ names) (same_names table written b.0.1 o.0 o.1)

same_params : (table : List Macro) (written : List Written) (turns : ℕ) (done : List Written × ℕ) → expanded_all table written turns ≡ Ok done →
    AllByRecursion HasParams written → AllByRecursion HasParams done.0
same_params table [] turns done e h = subst (λ t. AllByRecursion HasParams t.0) (ok_is ([], turns) done e) tt
same_params table (d ∷ written) turns done e h =
    let b = then_ok (expanded (expansion table d.body turns)) _ done e in
    let o = then_ok (expanded_all table written b.0.1) _ done b.2 in
    subst (λ t. AllByRecursion HasParams t.0) (ok_is (with_body d b.0.0 ∷ o.0.0, o.0.1) done o.2) (h.0, same_params table written b.0.1 o.0 o.1 h.1)

expanded_keeps : (table : List Macro) (written : List Written) (turns : ℕ) (done : List Written × ℕ) → expanded_all table written turns ≡ Ok done → Fine written → Fine done.0
expanded_keeps table written turns done e h =
    let names = sym (same_names table written turns done e) in
    record { params = same_params table written turns done e h.params; free = subst (AllByRecursion IsFree) names h.free; once = subst Distinct names h.once }

-- ---- parts of a list

module _ (keep : Written → Bool) where
  not_among_part : (name : List ℕ) (ds : List Written) → is_among name (names_of ds) ≡ false → is_among name (names_of (filter keep ds)) ≡ false
  not_among_part name [] n = refl
  not_among_part name (d ∷ ds) n =
      let o = or_false (bytes_eq name d.name) (is_among name (names_of ds)) n in
      elim (keep d) as (λ k. is_among name (names_of (cond k (d ∷ filter keep ds) (filter keep ds))) ≡ false) [
        | true ↦ rw o.0 (not_among_part name ds o.1)
        | false ↦ not_among_part name ds o.1
      ]

  part_once : (ds : List Written) → Distinct (names_of ds) → Distinct (names_of (filter keep ds))
  part_once [] h = tt
  part_once (d ∷ ds) h =
      elim (keep d) as (λ k. Distinct (names_of (cond k (d ∷ filter keep ds) (filter keep ds)))) [
        | true ↦ (not_among_part d.name ds h.0, part_once ds h.1)
        | false ↦ part_once ds h.1
      ]

  part_free : (ds : List Written) → AllByRecursion IsFree (names_of ds) → AllByRecursion IsFree (names_of (filter keep ds))
  part_free [] h = tt
  part_free (d ∷ ds) h =
      elim (keep d) as (λ k. AllByRecursion IsFree (names_of (cond k (d ∷ filter keep ds) (filter keep ds)))) [ true ↦ (h.0, part_free ds h.1) | false ↦ part_free ds h.1 ]

  part_fine : (ds : List Written) → Fine ds → Fine (filter keep ds)
  part_fine ds h = record {
    params = each_filter HasParams keep ds (each_weaker HasParams (λ d. keep d ≡ true → HasParams d) (λ d p e. p) ds h.params);
    free = part_free ds h.free;
    once = part_once ds h.once;
  }

not_among_both : (name : List ℕ) (xs ys : List (List ℕ)) → is_among name xs ≡ false → is_among name ys ≡ false → is_among name (xs ++ ys) ≡ false
not_among_both name [] ys n k = k
not_among_both name (x ∷ xs) ys n k = let o = or_false (bytes_eq name x) (is_among name xs) n in rw o.0 (not_among_both name xs ys o.1 k)

-- A name that is new goes in anywhere.
put : (name : List ℕ) (xs ys : List (List ℕ)) → is_among name (xs ++ ys) ≡ false → Distinct (xs ++ ys) → Distinct (xs ++ name ∷ ys)
put name [] ys n d = (n, d)
put name (x ∷ xs) ys n d =
    let o = or_false (bytes_eq name x) (is_among name (xs ++ ys)) n in
    (not_among_put (not_same x name o.0) xs d.0, put name xs ys o.1 d.1)
  where
    not_among_put : bytes_eq x name ≡ false → (zs : List (List ℕ)) → is_among x (zs ++ ys) ≡ false → is_among x (zs ++ name ∷ ys) ≡ false
    not_among_put e [] n = rw e n
    not_among_put e (z ∷ zs) n = let o = or_false (bytes_eq x z) (is_among x (zs ++ ys)) n in rw o.0 (not_among_put e zs o.1)

abbrev functions_of : List Written → List (List ℕ)
functions_of ds = names_of (filter (λ d. is_role Function d.role) ds)

abbrev inlines_of : List Written → List (List ℕ)
inlines_of ds = names_of (filter (λ d. is_role Inline d.role) ds)

abbrev constants_of : List Written → List (List ℕ)
constants_of ds = names_of (filter (λ d. is_role roles.Constant d.role) ds)

abbrev by_role : List Written → List (List ℕ)
by_role ds = functions_of ds ++ (inlines_of ds ++ constants_of ds)

new_by_role : (name : List ℕ) (ds : List Written) → is_among name (names_of ds) ≡ false → is_among name (by_role ds) ≡ false
new_by_role name ds n =
    not_among_both name (functions_of ds) (inlines_of ds ++ constants_of ds) (not_among_part (λ d. is_role Function d.role) name ds n)
    (not_among_both name (inlines_of ds) (constants_of ds) (not_among_part (λ d. is_role Inline d.role) name ds n) (not_among_part (λ d. is_role roles.Constant d.role) name ds n))

put_by_role : (role : Role) (name : List ℕ) (fs gs cs : List (List ℕ)) → is_among name (fs ++ (gs ++ cs)) ≡ false → Distinct (fs ++ (gs ++ cs)) →
    Distinct (cond (is_role Function role) (name ∷ fs) fs ++ (cond (is_role Inline role) (name ∷ gs) gs ++ cond (is_role roles.Constant role) (name ∷ cs) cs))
put_by_role Function name fs gs cs n d = (n, d)
put_by_role Inline name fs gs cs n d = put name fs (gs ++ cs) n d
put_by_role roles.Macro name fs gs cs n d = d
put_by_role roles.Constant name fs gs cs n d =
    subst Distinct (append_assoc fs gs (name ∷ cs))
    (put name (fs ++ gs) cs (subst (λ names. is_among name names ≡ false) (sym (append_assoc fs gs cs)) n) (subst Distinct (sym (append_assoc fs gs cs)) d))

kept_name : (keep : Bool) (d : Written) (ds : List Written) → names_of (cond keep (d ∷ ds) ds) ≡ cond keep (d.name ∷ names_of ds) (names_of ds)
kept_name true d ds = refl
kept_name false d ds = refl

once_by_role : (ds : List Written) → Distinct (names_of ds) → Distinct (by_role ds)
once_by_role [] h = tt
once_by_role (d ∷ ds) h =
    subst Distinct (sym (
    ap (λ fs. fs ++ (inlines_of (d ∷ ds) ++ constants_of (d ∷ ds))) (kept_name (is_role Function d.role) d (filter (λ d. is_role Function d.role) ds))
    ∙ ap (λ gs. cond (is_role Function d.role) (d.name ∷ functions_of ds) (functions_of ds) ++ (gs ++ constants_of (d ∷ ds))) (kept_name (is_role Inline d.role) d (filter (λ d. is_role Inline d.role) ds))
    ∙ ap (λ cs. cond (is_role Function d.role) (d.name ∷ functions_of ds) (functions_of ds) ++ (cond (is_role Inline d.role) (d.name ∷ inlines_of ds) (inlines_of ds) ++ cs))
    (kept_name (is_role roles.Constant d.role) d (filter (λ d. is_role roles.Constant d.role) ds))))
    (put_by_role d.role d.name (functions_of ds) (inlines_of ds) (constants_of ds) (new_by_role d.name ds h.0) (once_by_role ds h.1))

-- ---- the module

pub record Kept (parts : Parts) (draft : Draft) : Type 0 where
  pub own : AreDistinct draft.params
  pub fine : Fine draft.definitions

draft_keeps : (table : List Macro) (parts : Parts) (written : List Written) (draft : Draft) → draft_with table parts written ≡ Ok draft →
    AreDistinct parts.params → Fine written → Kept parts draft
draft_keeps table parts written draft e own fine =
    let d = then_ok (expanded_all table written turns_of_a_module) _ draft e in
    let b = then_ok (expanded (expansion table parts.body d.0.1)) _ draft d.2 in
    let is = ok_is (record { params = parts.params; definitions = d.0.0; body = b.0.0; body_place = place_of_form parts.body }) draft b.2 in
    record { own = subst (λ t. AreDistinct t.params) is own; fine = subst (λ t. Fine t.definitions) is (expanded_keeps table written turns_of_a_module d.0 d.1 fine) }

written_keeps : (texts : Texts) (parts : Parts) (written : List Written) → definitions_of texts parts ≡ Ok written → AreDistinct parts.params × Fine written
written_keeps texts parts written e =
    let p = then_ok (unless (params_fault parts.params) parts.params) _ written e in
    let w = then_ok (walked (included texts) parts.definitions start) _ written p.2 in (
      distinct_params parts.params (unless_ok (params_fault parts.params) parts.params p.0 p.1).0,
      subst Fine (ok_is w.0.definitions written w.2)
          (walked_keeps (included texts) (include_keeps (suc most_texts) texts) parts.definitions start w.0 w.1 (record { params = tt; free = tt; once = tt })),
    )

kept : (texts : Texts) (text : List ℕ) (m : Module) (s : Stages texts text m) → Kept s.parts s.draft
kept texts text m s =
    let w = written_keeps texts s.parts s.written s.defines in
    draft_keeps (map macro_of (macros_in s.written)) s.parts (without_macros s.written) s.draft s.expands w.0 (part_fine (λ d. not (is_role roles.Macro d.role)) s.written w.1)

pub parameters_are_distinct : ParametersAreDistinct
parameters_are_distinct texts text m e =
    let s = stages texts text m e in
    let k = kept texts text m s in
    let each = each_weaker HasParams (NoConstant HasParams) (λ d p n. p) s.draft.definitions k.fine.params in
    subst (λ m. AllByRecursion (λ d. AreDistinct d.params) m.functions × AllByRecursion (λ d. AreDistinct d.params) m.inlines × AreDistinct m.params) s.is
    (of_functions (λ d. AreDistinct d.params) s.draft.definitions each, of_all_inlines (λ d. AreDistinct d.params) s.draft.definitions each, k.own)

names_are : (ds : List Written) → definition_names (map definition ds) ≡ names_of ds
names_are [] = refl
names_are (d ∷ ds) = ap (λ names. d.name ∷ names) (names_are ds)

all_names_are : (draft : Draft) (constants : List Constant) → constants_after [] (constants_in draft.definitions) ≡ Ok constants →
    all_names (module_with draft constants) ≡ by_role draft.definitions
all_names_are draft constants e =
    ap (λ fs. fs ++ (definition_names (inlines_in draft.definitions) ++ constant_names constants)) (names_are (filter (λ d. is_role Function d.role) draft.definitions))
    ∙ ap (λ gs. functions_of draft.definitions ++ (gs ++ constant_names constants)) (names_are (filter (λ d. is_role Inline d.role) draft.definitions))
    ∙ ap (λ cs. functions_of draft.definitions ++ (inlines_of draft.definitions ++ cs)) (names_after [] (constants_in draft.definitions) constants e)

free_by_role : (ds : List Written) → AllByRecursion IsFree (names_of ds) → AllByRecursion IsFree (by_role ds)
free_by_role ds h =
    each_append IsFree (functions_of ds) (inlines_of ds ++ constants_of ds) (part_free (λ d. is_role Function d.role) ds h)
    (each_append IsFree (inlines_of ds) (constants_of ds) (part_free (λ d. is_role Inline d.role) ds h) (part_free (λ d. is_role roles.Constant d.role) ds h))

pub definitions_are_named : DefinitionsAreNamed
definitions_are_named texts text m e =
    let s = stages texts text m e in
    let k = kept texts text m s in
    let names = sym (all_names_are s.draft s.constants s.values) in
    subst (λ m. Distinct (all_names m) × AllByRecursion IsFree (all_names m)) s.is
    (subst Distinct names (once_by_role s.draft.definitions k.fine.once), subst (AllByRecursion IsFree) names (free_by_role s.draft.definitions k.fine.free))
