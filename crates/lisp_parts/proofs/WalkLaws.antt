-- The walk along the texts that are open is the walk of the definition.
use Rattle.std.proofs.Common.{◌≡◌, ℕ, suc, Bool, true, false, cond, List, [], ◌∷◌, ◌++◌, length, Option, Some, None, Ok, Err, refl, sym, ap, ◌∙◌, subst}
use Rattle.lisp_spec.specs.Forms.{Form, Place, place_of_form}
use Rattle.lisp_spec.specs.ModuleFaults.{Judged, ◌>>=◌, is_among}
use Rattle.lisp_spec.specs.Definitions.{Written, Entry, Defines, Includes, Shapeless, entry_of}
use Rattle.lisp_spec.specs.Inclusion.{Walk, start, defined, Include, walked_entry, walked, Texts, next_text, entered, with_text, forms_of_library, included}
use Rattle.lisp_spec.specs.InclusionLaws.{AreNumbered}
use Rattle.lisp_spec.proofs.InclusionProofs.{include_is_its_step}
use Rattle.ports_io.specs.Outside.{Stays}
use Rattle.lisp_parts.specs.declared.fault.PartsFault.{PartsFault}
use Rattle.lisp_parts.specs.declared.fault.PartsFault.TheVariants.{Read, NotAModule, NameTwice, IncludeMissing, LibraryFault, OutOfMemory}
use Rattle.lisp_parts.specs.Faults.{IsFaultOf}
use Rattle.lisp_parts.specs.Steps.{Step, on, into, forms_in, stepped_entry, stepped, StepsTo, AreTold, IsKnown, Learns, ForSomeTexts, walked_levels, definitions_in}

-- ---- one after another

pub then_assoc : {A B C : Type 0} (j : Judged A) (f : A → Judged B) (g : B → Judged C) → ((j >>= f) >>= g) ≡ (j >>= λ a. f a >>= g)
then_assoc (Ok a) f g = refl
then_assoc (Err first) f g = refl

pub then_same : {A B : Type 0} (j : Judged A) (f g : A → Judged B) → ((a : A) → f a ≡ g a) → (j >>= f) ≡ (j >>= g)
then_same (Ok a) f g h = h a
then_same (Err first) f g h = refl

-- a fault of the first is that of both
pub first_fault : {A B : Type 0} (j : Judged A) (next : A → Judged B) (f : PartsFault) → IsFaultOf j f → IsFaultOf (j >>= next) f
first_fault j next (Read what place) e = ap (λ i. i >>= next) e
first_fault j next (NotAModule place) e = ap (λ i. i >>= next) e
first_fault j next (NameTwice place) e = ap (λ i. i >>= next) e
first_fault j next (IncludeMissing place) e = ap (λ i. i >>= next) e
first_fault j next LibraryFault e = tt
first_fault j next OutOfMemory e = tt

-- ---- levels

ends_there : (include : Include) (j : Judged Walk) → j ≡ (j >>= walked_levels include [])
ends_there include (Ok walk) = refl
ends_there include (Err first) = refl

pub levels_push : (include : Include) (levels : List (List Form)) (forms : List Form) (walk : Walk) →
    walked_levels include (levels ++ forms ∷ []) walk ≡ (walked include forms walk >>= walked_levels include levels)
levels_push include [] forms walk = ends_there include (walked include forms walk)
levels_push include (level ∷ levels) forms walk =
    ap (λ j. j >>= walked include level) (levels_push include levels forms walk)
    ∙ then_assoc (walked include forms walk) (walked_levels include levels) (walked include level)

pub exhausted : (include : Include) (levels : List (List Form)) (walk : Walk) → walked_levels include (levels ++ [] ∷ []) walk ≡ walked_levels include levels walk
exhausted include levels walk = levels_push include levels [] walk

-- ---- a step

abbrev pub go_in : Include → Walk → Option (List Form) → Judged Walk
go_in include walk None = Ok walk
go_in include walk (Some forms) = walked include forms walk

abbrev pub go : Include → Step → Judged Walk
go include step = go_in include step.walk step.inner

goes_on : (include : Include) (j : Judged Walk) → j ≡ ((j >>= λ next. Ok (on next)) >>= go include)
goes_on include (Ok walk) = refl
goes_on include (Err first) = refl

goes_in : (include : Include) (after : Walk) (j : Judged (List Form)) → (j >>= λ forms. walked include forms after) ≡ ((j >>= λ forms. Ok (into after forms)) >>= go include)
goes_in include after (Ok forms) = refl
goes_in include after (Err first) = refl

opens : (include : Include) (place : Place) (name : List ℕ) (walk : Walk) (found : Option (List ℕ)) →
    with_text include place name walk found ≡ ((forms_in (suc (length walk.included)) place found >>= λ forms. Ok (into (entered name walk) forms)) >>= go include)
opens include place name walk None = refl
opens include place name walk (Some text) = goes_in include (entered name walk) (forms_of_library (suc (length walk.included)) text)

among_or_opens : (include : Include) (walk : Walk) (among : Bool) (text : Judged Walk) (step : Judged Step) → text ≡ (step >>= go include) →
    cond among (Ok walk) text ≡ (cond among (Ok (on walk)) step >>= go include)
among_or_opens include walk true text step e = refl
among_or_opens include walk false text step e = e

entry_is_step : (texts : Texts) (place : Place) (entry : Entry) (walk : Walk) → AreNumbered walk →
    walked_entry (included texts) place entry walk ≡ (stepped_entry texts place entry walk >>= go (included texts))
entry_is_step texts place (Defines d) walk n = goes_on (included texts) (defined d walk)
entry_is_step texts place (Includes name) walk n =
    include_is_its_step texts place name walk n
    ∙ among_or_opens (included texts) walk (is_among name walk.included)
    (with_text (included texts) place name walk (next_text texts walk name))
    (forms_in (suc (length walk.included)) place (next_text texts walk name) >>= λ forms. Ok (into (entered name walk) forms))
    (opens (included texts) place name walk (next_text texts walk name))
entry_is_step texts place Shapeless walk n = refl

-- the texts that are open after a step
abbrev pub opened_levels : List (List Form) → Option (List Form) → List (List Form)
opened_levels levels None = levels
opened_levels levels (Some forms) = levels ++ forms ∷ []

goes_to_levels : (include : Include) (levels : List (List Form)) (walk : Walk) (inner : Option (List Form)) →
    (go_in include walk inner >>= walked_levels include levels) ≡ walked_levels include (opened_levels levels inner) walk
goes_to_levels include levels walk None = refl
goes_to_levels include levels walk (Some forms) = sym (levels_push include levels forms walk)

pub after_step : (texts : Texts) (levels : List (List Form)) (form : Form) (rest : List Form) (walk : Walk) → AreNumbered walk →
    walked_levels (included texts) (levels ++ (form ∷ rest) ∷ []) walk
    ≡ (stepped texts form walk >>= λ step. walked_levels (included texts) (opened_levels (levels ++ rest ∷ []) step.inner) step.walk)
after_step texts levels form rest walk n =
    let include = included texts in
    let entry = walked_entry include (place_of_form form) (entry_of form) walk in
    levels_push include levels (form ∷ rest) walk
    ∙ then_assoc entry (walked include rest) (walked_levels include levels)
    ∙ then_same entry (λ w. walked include rest w >>= walked_levels include levels) (walked_levels include (levels ++ rest ∷ [])) (λ w. sym (levels_push include levels rest w))
    ∙ ap (λ j. j >>= walked_levels include (levels ++ rest ∷ [])) (entry_is_step texts (place_of_form form) (entry_of form) walk n)
    ∙ then_assoc (stepped texts form walk) (go include) (walked_levels include (levels ++ rest ∷ []))
    ∙ then_same (stepped texts form walk) (λ s. go include s >>= walked_levels include (levels ++ rest ∷ [])) (λ s. walked_levels include (opened_levels (levels ++ rest ∷ []) s.inner) s.walk)
    (λ s. goes_to_levels include (levels ++ rest ∷ []) s.walk s.inner)

-- ---- what is known of the texts

abbrev pub all_of : Walk → Judged (List Written)
all_of walk = Ok walk.definitions

-- the definitions of these forms are what is left of the walk
abbrev pub IsLeft : List Form → List (List Form) → Walk → Texts → Type 0
IsLeft forms levels walk texts = definitions_in texts forms ≡ (walked_levels (included texts) levels walk >>= all_of)

pub some_texts : (library : Option Texts) → IsKnown library [] (λ texts. Unit {0})
some_texts None = record { texts = λ name. None; told = tt; holds = λ others agree. tt }
some_texts (Some told) = record { texts = told; told = refl; holds = λ others agree. tt }

pub known_start : (library : Option Texts) (forms : List Form) (levels : List (List Form)) (walk : Walk) → levels ≡ forms ∷ [] → walk ≡ start → IsKnown library walk.included (IsLeft forms levels walk)
known_start library forms levels walk l w =
    let some = some_texts library in
    record {
      texts = some.texts;
      told = some.told;
      holds = λ others agree. ap (λ v. walked (included others) forms v >>= all_of) (sym w) ∙ ap (λ ls. walked_levels (included others) ls walk >>= all_of) (sym l);
    }

pub known_exhausted : (library : Option Texts) (forms : List Form) (levels more : List (List Form)) (level : List Form) (walk : Walk) → levels ≡ more ++ level ∷ [] → level ≡ [] →
    IsKnown library walk.included (IsLeft forms levels walk) → IsKnown library walk.included (IsLeft forms more walk)
known_exhausted library forms levels more level walk l e k = record {
  texts = k.texts;
  told = k.told;
  holds = λ others agree.
      k.holds others agree
      ∙ ap (λ ls. walked_levels (included others) ls walk >>= all_of) (l ∙ ap (λ f. more ++ f ∷ []) e)
      ∙ ap (λ j. j >>= all_of) (exhausted (included others) more walk);
}

-- What a library tells stays told.
told_still : (first now : Option Texts) (known texts : Texts) → Stays first now → (AreTold now known → AreTold now texts) → AreTold first known → AreTold first texts
told_still None now known texts stays told known_told = tt
told_still (Some t) None known texts stays told known_told = absurd stays
told_still (Some t) (Some u) known texts stays told known_told = told (known_told ∙ sym stays) ∙ stays

pub known_step : (library now : Option Texts) (forms : List Form) (levels more : List (List Form)) (form : Form) (rest : List Form) (walk next : Walk) (inner : Option (List Form)) →
    AreNumbered walk → levels ≡ more ++ (form ∷ rest) ∷ [] → Stays library now → IsKnown library walk.included (IsLeft forms levels walk) →
    ((known : Texts) → Learns now walk.included next.included (λ texts. StepsTo (stepped texts form walk) next (Ok inner)) known) →
    IsKnown library next.included (IsLeft forms (opened_levels (more ++ rest ∷ []) inner) next)
known_step library now forms levels more form rest walk next inner n l stays k learns =
    let a = learns k.texts in
    record {
      texts = a.texts;
      told = told_still library now k.texts a.texts stays a.told k.told;
      holds = λ others agree.
          k.holds others (λ name among. agree name (a.grows name among) ∙ a.kept name among)
          ∙ ap (λ ls. walked_levels (included others) ls walk >>= all_of) l
          ∙ ap (λ j. j >>= all_of) (after_step others more form rest walk n)
          ∙ ap (λ j. (j >>= λ step. walked_levels (included others) (opened_levels (more ++ rest ∷ []) step.inner) step.walk) >>= all_of) (a.holds others agree);
    }

pub fault_step : (library now : Option Texts) (forms : List Form) (levels more : List (List Form)) (form : Form) (rest : List Form) (walk next : Walk) (f : PartsFault) →
    AreNumbered walk → levels ≡ more ++ (form ∷ rest) ∷ [] → Stays library now → IsKnown library walk.included (IsLeft forms levels walk) →
    ((known : Texts) → Learns now walk.included next.included (λ texts. StepsTo (stepped texts form walk) next (Err f)) known) →
    ForSomeTexts library (λ texts. IsFaultOf (definitions_in texts forms) f)
fault_step library now forms levels more form rest walk next f n l stays k learns =
    let a = learns k.texts in
    let continue = λ (step : Step). walked_levels (included a.texts) (opened_levels (more ++ rest ∷ []) step.inner) step.walk in
    let same : definitions_in a.texts forms ≡ ((stepped a.texts form walk >>= continue) >>= all_of) =
    k.holds a.texts a.kept
    ∙ ap (λ ls. walked_levels (included a.texts) ls walk >>= all_of) l
    ∙ ap (λ j. j >>= all_of) (after_step a.texts more form rest walk n) in
    let fails = first_fault (stepped a.texts form walk >>= continue) all_of f (first_fault (stepped a.texts form walk) continue f (a.holds a.texts (λ name among. refl))) in
    (a.texts, told_still library now k.texts a.texts stays a.told k.told, subst (λ j. IsFaultOf j f) (sym same) fails)

-- Where no text is open any more, all definitions are found.
pub known_end : (library : Option Texts) (forms : List Form) (levels : List (List Form)) (walk : Walk) → levels ≡ [] → IsKnown library walk.included (IsLeft forms levels walk) →
    ForSomeTexts library (λ texts. definitions_in texts forms ≡ Ok walk.definitions)
known_end library forms levels walk l k =
    (k.texts, k.told, k.holds k.texts (λ name among. refl) ∙ ap (λ ls. walked_levels (included k.texts) ls walk >>= all_of) l)

-- ... and without memory nothing is said
pub known_nothing : (library : Option Texts) (names : List (List ℕ)) (Holds Says : Texts → Type 0) → IsKnown library names Holds → ((texts : Texts) → Says texts) → ForSomeTexts library Says
known_nothing library names Holds Says k s = (k.texts, k.told, s k.texts)
