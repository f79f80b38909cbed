-- One step of the walk, by what its parts answer.
use Rattle.std.proofs.Common.{◌≡◌, ℕ, ◌<◌, ◌≤◌, Bool, true, false, not, cond, List, [], ◌∷◌, ◌++◌, length, Option, None, Result, Ok, Err, sym, ap, ◌∙◌, subst}
use Rattle.std.specs.Result.{IsErrAnd}
use Rattle.lisp_spec.specs.Forms.{Form, Place, place_of_form}
use Rattle.lisp_spec.specs.ModuleFaults.{Judged, ◌>>=◌, fault, is_among}
use Rattle.lisp_spec.specs.ModuleFaults as kind
use Rattle.lisp_spec.specs.Definitions.{Written, Defines, Includes, Shapeless, entry_of}
use Rattle.lisp_spec.specs.Inclusion.{Walk, most_texts, Texts, defined}
use Rattle.ports_io.specs.Outside.{IsTextOf}
use Rattle.lisp_parts.specs.declared.fault.PartsFault.{PartsFault}
use Rattle.lisp_parts.specs.declared.fault.PartsFault.TheVariants.{NotAModule, IncludeMissing, OutOfMemory}
use Rattle.lisp_parts.specs.Faults.{IsFaultOf}
use Rattle.lisp_parts.specs.Steps.{Finds, forms_named, ForSomeTexts, Learns, Step, on, opened, stepped_entry, stepped, StepsTo}
use Rattle.lisp_parts.proofs.NameLaws.{is_known, is_new, stands_last}
use Rattle.lisp_parts.proofs.WalkLaws.{first_fault, some_texts}
use Rattle.lisp_parts.proofs.OpeningLaws.{walk_with, knows_already, has_too_many, has_opened, inner_of}

-- ---- without memory

pub steps_nothing : (step : Judged Step) (next : Walk) (result : Result (Option (List Form)) PartsFault) → IsErrAnd result (λ e. e ≡ OutOfMemory) → StepsTo step next result
steps_nothing step next (Ok inner) h = absurd h
steps_nothing step next (Err f) h = subst (IsFaultOf step) (sym h) tt

pub finds_nothing : {A B : Type 0} (seen : A → B) (judged : Judged B) (result : Result A PartsFault) → IsErrAnd result (λ e. e ≡ OutOfMemory) → Finds seen judged result
finds_nothing seen judged (Ok found) h = absurd h
finds_nothing seen judged (Err f) h = subst (IsFaultOf judged) (sym h) tt

pub finds_fault : {A B : Type 0} (seen : A → B) (judged : Judged B) (f : PartsFault) (result : Result A PartsFault) → IsErrAnd result (λ e. e ≡ f) → IsFaultOf judged f → Finds seen judged result
finds_fault seen judged f (Ok found) h i = absurd h
finds_fault seen judged f (Err e) h i = subst (IsFaultOf judged) (sym h) i

pub for_some_nothing : {A B : Type 0} (library : Option Texts) (seen : A → B) (judged : Texts → Judged B) (result : Result A PartsFault) → IsErrAnd result (λ e. e ≡ OutOfMemory) → ForSomeTexts library (λ texts. Finds seen (judged texts) result)
for_some_nothing library seen judged result h =
    let some = some_texts library in (some.texts, some.told, finds_nothing seen (judged some.texts) result h)

pub for_some_fault : {A B : Type 0} (library : Option Texts) (seen : A → B) (judged : Texts → Judged B) (f : PartsFault) (result : Result A PartsFault) → IsErrAnd result (λ e. e ≡ f) →
    ForSomeTexts library (λ texts. IsFaultOf (judged texts) f) → ForSomeTexts library (λ texts. Finds seen (judged texts) result)
for_some_fault library seen judged f result h some = (some.0, some.1, finds_fault seen (judged some.0) f result h some.2)

-- ---- an include

stays_there : (name added : List ℕ) (names after : List (List ℕ)) → added ≡ name → after ≡ cond (is_among added names) names (names ++ added ∷ []) → is_among name names ≡ true → after ≡ names
stays_there name added names after a e n = e ∙ ap (λ b. cond b names (names ++ added ∷ [])) (ap (λ w. is_among w names) a ∙ n)

pub includes_again : (library : Option Texts) (place : Place) (name added : List ℕ) (before after : List (List ℕ)) (definitions : List Written) (new : Bool) →
    added ≡ name → new ≡ not (is_among added before) → after ≡ cond (is_among added before) before (before ++ added ∷ []) → new ≡ false →
    (known : Texts) → Learns library before after (λ texts. StepsTo (opened texts place name (walk_with before definitions)) (walk_with after definitions) (Ok None)) known
includes_again library place name added before after definitions new a n e f =
    let among = is_known name added before new a n f in
    knows_already library place name before after definitions among (stays_there name added before after a e among)

pub includes_too_many : (library : Option Texts) (place : Place) (name added : List ℕ) (before after : List (List ℕ)) (definitions : List Written) (new : Bool) →
    added ≡ name → new ≡ not (is_among added before) → after ≡ cond (is_among added before) before (before ++ added ∷ []) → new ≡ true → most_texts < length after →
    (known : Texts) → Learns library before after (λ texts. StepsTo (opened texts place name (walk_with before definitions)) (walk_with after definitions) (Err (IncludeMissing place))) known
includes_too_many library place name added before after definitions new a n e t long =
    let fresh = is_new name added before new a n t in
    has_too_many library place name before after definitions fresh (stands_last name added before after a e fresh) long

pub includes_text : (library : Option Texts) (place : Place) (name added asked : List ℕ) (before after : List (List ℕ)) (definitions : List Written) (new : Bool) (number : ℕ) (found : Result (List Form) PartsFault) →
    added ≡ name → new ≡ not (is_among added before) → after ≡ cond (is_among added before) before (before ++ added ∷ []) → new ≡ true →
    number ≡ length after → length after ≤ most_texts → asked ≡ name →
    ((answer : Option (List ℕ)) × IsTextOf asked library answer × Finds (λ forms. forms) (forms_named number place asked answer) found) →
    (known : Texts) → Learns library before after (λ texts. StepsTo (opened texts place name (walk_with before definitions)) (walk_with after definitions) (inner_of found)) known
includes_text library place name added asked before after definitions new number found a n e t count room s f =
    let fresh = is_new name added before new a n t in
    has_opened library place name before after definitions number f.0 found fresh (stands_last name added before after a e fresh) count room
    (subst (λ w. IsTextOf w library f.0) s f.1) (subst (λ w. Finds (λ forms. forms) (forms_named number place w f.0) found) s f.2)

-- ---- a step

pub learns_as : (library : Option Texts) (earlier names : List (List ℕ)) (Holds Says : Texts → Type 0) (known : Texts) → ((texts : Texts) → Holds texts → Says texts) → Learns library earlier names Holds known → Learns library earlier names Says known
learns_as library earlier names Holds Says known says l = record {
  texts = l.texts;
  told = l.told;
  kept = l.kept;
  grows = l.grows;
  holds = λ others agree. says others (l.holds others agree);
}

pub steps_to_definition : (texts : Texts) (form : Form) (d : Written) (walk next : Walk) → Defines d ≡ entry_of form → defined d walk ≡ Ok next → stepped texts form walk ≡ Ok (on next)
steps_to_definition texts form d walk next e f = ap (λ n. stepped_entry texts (place_of_form form) n walk) (sym e) ∙ ap (λ j. j >>= λ n. Ok (on n)) f

pub steps_to_fault : (texts : Texts) (form : Form) (d : Written) (walk : Walk) (f : PartsFault) → Defines d ≡ entry_of form → IsFaultOf (defined d walk) f → IsFaultOf (stepped texts form walk) f
steps_to_fault texts form d walk f e i =
    subst (λ n. IsFaultOf (stepped_entry texts (place_of_form form) n walk) f) e (first_fault (defined d walk) (λ n. Ok (on n)) f i)

pub steps_to_shapeless : (texts : Texts) (form : Form) (place : Place) (walk : Walk) → place ≡ place_of_form form → Shapeless ≡ entry_of form → IsFaultOf (stepped texts form walk) (NotAModule place)
steps_to_shapeless texts form place walk p e = ap (λ n. stepped_entry texts (place_of_form form) n walk) (sym e) ∙ ap (λ q. Err (fault kind.NotAModule q)) (sym p)

pub steps_into : (texts : Texts) (form : Form) (place : Place) (name : List ℕ) (walk next : Walk) (result : Result (Option (List Form)) PartsFault) → place ≡ place_of_form form → Includes name ≡ entry_of form →
    StepsTo (opened texts place name walk) next result → StepsTo (stepped texts form walk) next result
steps_into texts form place name walk next result p e s =
    subst (λ j. StepsTo j next result) (ap (λ q. stepped_entry texts q (Includes name) walk) p ∙ ap (λ n. stepped_entry texts (place_of_form form) n walk) e) s
