-- What bounds includes is no part of them: each takes a name, and there are no more than the bound.
use Rattle.std.proofs.Common.{◌≡◌, ℕ, zero, suc, ◌+◌, ◌≤◌, ◌<◌, Bool, true, false, cond, nat_lt, List, [], ◌∷◌, ◌++◌, length, Option, Some, None, Ok, Err, refl, ◌∙◌, ap, subst, arith, length-append}
use Rattle.std.proofs.lemmas.Bool.{ltb-true}
use Rattle.lisp_spec.specs.Forms.{Form, Place, place_of_form}
use Rattle.lisp_spec.specs.ModuleFaults.{Judged, ◌>>=◌, is_among}
use Rattle.lisp_spec.specs.Definitions.{Written, Entry, Defines, Includes, Shapeless, entry_of}
use Rattle.lisp_spec.specs.Inclusion.{Walk, most_texts, name_fault, defined, Include, walked_entry, walked, forms_of_library, Texts, text_named, next_text, entered, with_text, included_within}
use Rattle.lisp_spec.specs.InclusionLaws.{AreNumbered, IncludeIsItsStep, IncludesKeepNumbers}
use Rattle.lisp_spec.proofs.ModuleProofs.{then_ok, ok, ok_is, unless_ok}

-- There are no fewer texts than before, and each has a number.
pub record Grown (walk next : Walk) : Type 0 where
  pub more : length walk.included ≤ length next.included
  pub numbered : AreNumbered next

abbrev Grows : Include → Type 0
Grows include = (place : Place) (name : List ℕ) (walk next : Walk) → AreNumbered walk → include place name walk ≡ Ok next → Grown walk next

still : (walk : Walk) → AreNumbered walk → Grown walk walk
still walk n = record { more = omega arith; numbered = n }

defined_grows : (d : Written) (walk next : Walk) → AreNumbered walk → defined d walk ≡ Ok next → Grown walk next
defined_grows d walk next n e =
    subst (Grown walk) (unless_ok (name_fault walk d) (record walk { definitions = walk.definitions ++ d ∷ [] }) next e).1 (record { more = omega arith; numbered = n })

entry_grows : (include : Include) → Grows include → (place : Place) (entry : Entry) (walk next : Walk) → AreNumbered walk → walked_entry include place entry walk ≡ Ok next → Grown walk next
entry_grows include grows place (Defines d) walk next n e = defined_grows d walk next n e
entry_grows include grows place (Includes name) walk next n e = grows place name walk next n e
entry_grows include grows place Shapeless walk next n e = absurd cc

walked_grows : (include : Include) → Grows include → (forms : List Form) (walk next : Walk) → AreNumbered walk → walked include forms walk ≡ Ok next → Grown walk next
walked_grows include grows [] walk next n e = subst (Grown walk) (ok_is walk next e) (still walk n)
walked_grows include grows (f ∷ forms) walk next n e =
    let s = then_ok (walked_entry include (place_of_form f) (entry_of f) walk) (walked include forms) next e in
    let a = entry_grows include grows (place_of_form f) (entry_of f) walk s.0 n s.1 in
    let b = walked_grows include grows forms s.0 next a.numbered s.2 in
    record { more = omega (arith, a.more, b.more); numbered = b.numbered }

-- A text is added only where it has a number.
numbered_next : (few : Bool) (text : Option (List ℕ)) (found : List ℕ) → cond few text None ≡ Some found → few ≡ true
numbered_next true text found e = refl
numbered_next false text found e = absurd cc

few_texts : (texts : Texts) (walk : Walk) (name text : List ℕ) → next_text texts walk name ≡ Some text → length walk.included < most_texts
few_texts texts walk name text e = ltb-true _ _ (numbered_next (nat_lt (length walk.included) most_texts) (text_named texts name) text e)

one_longer : (name : List ℕ) (walk : Walk) → length (entered name walk).included ≡ suc (length walk.included)
one_longer name walk = omega (arith, length-append walk.included (name ∷ []))

text_grows : (include : Include) → Grows include → (texts : Texts) (place : Place) (name : List ℕ) (walk next : Walk) (found : Option (List ℕ)) → next_text texts walk name ≡ found →
    AreNumbered walk → with_text include place name walk found ≡ Ok next → Grown walk next
text_grows include grows texts place name walk next None t n e = absurd cc
text_grows include grows texts place name walk next (Some text) t n e =
    let s = then_ok (forms_of_library (suc (length walk.included)) text) (λ forms. walked include forms (entered name walk)) next e in
    let g = walked_grows include grows s.0 (entered name walk) next (omega (arith, one_longer name walk, few_texts texts walk name text t)) s.2 in
    record { more = omega (arith, g.more, one_longer name walk); numbered = g.numbered }

known_grows : (known : Bool) (walk next : Walk) (other : Judged Walk) → AreNumbered walk → cond known (ok walk) other ≡ Ok next → (other ≡ Ok next → Grown walk next) → Grown walk next
known_grows true walk next other n e go = subst (Grown walk) (ok_is walk next e) (still walk n)
known_grows false walk next other n e go = go e

include_grows : (bound : ℕ) (texts : Texts) → Grows (included_within bound texts)
include_grows zero texts place name walk next n e = absurd cc
include_grows (suc bound) texts place name walk next n e =
    known_grows (is_among name walk.included) walk next (with_text (included_within bound texts) place name walk (next_text texts walk name)) n e
    (text_grows (included_within bound texts) (include_grows bound texts) texts place name walk next (next_text texts walk name) refl n)

-- ---- two bounds that suffice give the same

then_alike : {A B : Type 0} (x : Judged A) (f g : A → Judged B) → ((a : A) → x ≡ Ok a → f a ≡ g a) → (x >>= f) ≡ (x >>= g)
then_alike (Ok a) f g h = h a refl
then_alike (Err e) f g h = refl

-- whether two ways to include give the same from so many texts on
abbrev Alike : ℕ → Include → Include → Type 0
Alike n f g = (place : Place) (name : List ℕ) (walk : Walk) → n ≤ length walk.included → AreNumbered walk → f place name walk ≡ g place name walk

entry_alike : (n : ℕ) (f g : Include) → Alike n f g → (place : Place) (entry : Entry) (walk : Walk) → n ≤ length walk.included → AreNumbered walk →
    walked_entry f place entry walk ≡ walked_entry g place entry walk
entry_alike n f g alike place (Defines d) walk l m = refl
entry_alike n f g alike place (Includes name) walk l m = alike place name walk l m
entry_alike n f g alike place Shapeless walk l m = refl

walked_alike : (n : ℕ) (f g : Include) → Alike n f g → Grows g → (forms : List Form) (walk : Walk) → n ≤ length walk.included → AreNumbered walk →
    walked f forms walk ≡ walked g forms walk
walked_alike n f g alike grows [] walk l m = refl
walked_alike n f g alike grows (x ∷ forms) walk l m =
    ap (λ first. first >>= walked f forms) (entry_alike n f g alike (place_of_form x) (entry_of x) walk l m)
    ∙ then_alike (walked_entry g (place_of_form x) (entry_of x) walk) (walked f forms) (walked g forms)
    (λ next e. let a = entry_grows g grows (place_of_form x) (entry_of x) walk next m e in
    walked_alike n f g alike grows forms next (omega (arith, l, a.more)) a.numbered)

text_alike : (f g : Include) (texts : Texts) (place : Place) (name : List ℕ) (walk : Walk) → Alike (suc (length walk.included)) f g → Grows g →
    (found : Option (List ℕ)) → next_text texts walk name ≡ found → with_text f place name walk found ≡ with_text g place name walk found
text_alike f g texts place name walk alike grows None t = refl
text_alike f g texts place name walk alike grows (Some text) t =
    then_alike (forms_of_library (suc (length walk.included)) text) (λ forms. walked f forms (entered name walk)) (λ forms. walked g forms (entered name walk))
    (λ forms e. walked_alike (suc (length walk.included)) f g alike grows forms (entered name walk) (omega (arith, one_longer name walk))
    (omega (arith, one_longer name walk, few_texts texts walk name text t)))

bounds_alike : (b c : ℕ) (texts : Texts) (place : Place) (name : List ℕ) (walk : Walk) → AreNumbered walk →
    (suc most_texts) ≤ length walk.included + b → (suc most_texts) ≤ length walk.included + c → included_within b texts place name walk ≡ included_within c texts place name walk
bounds_alike zero c texts place name walk n lb lc = absurd (omega (arith, n, lb))
bounds_alike (suc b) zero texts place name walk n lb lc = absurd (omega (arith, n, lc))
bounds_alike (suc b) (suc c) texts place name walk n lb lc =
    ap (λ other. cond (is_among name walk.included) (ok walk) other)
    (text_alike (included_within b texts) (included_within c texts) texts place name walk
    (λ p m w l k. bounds_alike b c texts p m w k (omega (arith, l, lb)) (omega (arith, l, lc)))
    (include_grows c texts) (next_text texts walk name) refl)

-- one more step than the bound
one_more : (bound : ℕ) (texts : Texts) (place : Place) (name : List ℕ) (walk : Walk) → AreNumbered walk → (suc most_texts) ≤ bound →
    included_within bound texts place name walk ≡ cond (is_among name walk.included) (ok walk) (with_text (included_within bound texts) place name walk (next_text texts walk name))
one_more bound texts place name walk n l = bounds_alike bound (suc bound) texts place name walk n (omega (arith, l)) (omega (arith, l))

pub include_is_its_step : IncludeIsItsStep
include_is_its_step texts place name walk n = one_more (suc most_texts) texts place name walk n (omega arith)

pub includes_keep_numbers : IncludesKeepNumbers
includes_keep_numbers texts place name walk next n e = (include_grows (suc most_texts) texts place name walk next n e).numbered
