-- A module's text as a whole, by its outline and its definitions.
use Rattle.std.proofs.Common.{◌≡◌, ℕ, List, Option, Some, None, Result, Ok, Err, sym, ap, ◌∙◌, subst}
use Rattle.std.specs.Result.{IsErrAnd}
use Rattle.lisp_read.specs.Views.{form_of}
use Rattle.lisp_spec.specs.Forms.{Place}
use Rattle.lisp_spec.specs.ModuleFaults.{NameTwice, fault, ◌>>=◌, unless}
use Rattle.lisp_spec.specs.Inclusion.{Parts, Texts, params_fault, walked, included, start, parts_of_text, definitions_of}
use Rattle.lisp_parts.specs.declared.fault.PartsFault.{PartsFault}
use Rattle.lisp_parts.specs.declared.fault.PartsFault.TheVariants.{OutOfMemory}
use Rattle.lisp_parts.specs.declared.whole.ModuleParts.{ModuleParts}
use Rattle.lisp_parts.specs.Faults.{IsFaultOf}
use Rattle.lisp_parts.specs.Steps.{ForSomeTexts, definitions_in}
use Rattle.lisp_parts.specs.Views.{all_written}
use Rattle.lisp_parts.specs.TakenApart.{IsTakenApart, Answers}
use Rattle.lisp_parts.proofs.WalkLaws.{first_fault, some_texts}

pub definitions_after : (texts : Texts) (parts : Parts) → params_fault parts.params ≡ None → definitions_of texts parts ≡ definitions_in texts parts.definitions
definitions_after texts parts e = ap (λ f. unless f parts.params >>= λ params. walked (included texts) parts.definitions start >>= λ walk. Ok walk.definitions) e

pub answers_fault : (text : List ℕ) (texts : Texts) (f : PartsFault) (result : Result ModuleParts PartsFault) → IsErrAnd result (λ e. e ≡ f) → IsFaultOf (parts_of_text text >>= definitions_of texts) f → Answers text texts result
answers_fault text texts f (Ok taken) h i = absurd h
answers_fault text texts f (Err e) h i = subst (IsFaultOf (parts_of_text text >>= definitions_of texts)) (sym h) i

pub some_outline_fault : (library : Option Texts) (text : List ℕ) (f : PartsFault) (result : Result ModuleParts PartsFault) → IsErrAnd result (λ e. e ≡ f) → IsFaultOf (parts_of_text text) f → ForSomeTexts library (λ texts. Answers text texts result)
some_outline_fault library text f result h i =
    let some = some_texts library in
    (some.texts, some.told, answers_fault text some.texts f result h (first_fault (parts_of_text text) (definitions_of some.texts) f i))

pub some_nothing : (library : Option Texts) (text : List ℕ) (result : Result ModuleParts PartsFault) → IsErrAnd result (λ e. e ≡ OutOfMemory) → ForSomeTexts library (λ texts. Answers text texts result)
some_nothing library text result h = some_outline_fault library text OutOfMemory result h tt

pub some_name_twice : (library : Option Texts) (text : List ℕ) (parts : Parts) (place : Place) → parts_of_text text ≡ Ok parts → Some (fault NameTwice place) ≡ params_fault parts.params →
    ForSomeTexts library (λ texts. (parts_of_text text >>= definitions_of texts) ≡ Err (fault NameTwice place))
some_name_twice library text parts place r e =
    let some = some_texts library in (
      some.texts,
      some.told,
      ap (λ j. j >>= definitions_of some.texts) r
          ∙ ap (λ f. unless f parts.params >>= λ params. walked (included some.texts) parts.definitions start >>= λ walk. Ok walk.definitions) (sym e),
    )

pub some_fault : (library : Option Texts) (text : List ℕ) (parts : Parts) (f : PartsFault) → parts_of_text text ≡ Ok parts → params_fault parts.params ≡ None →
    ForSomeTexts library (λ texts. IsFaultOf (definitions_in texts parts.definitions) f) → ForSomeTexts library (λ texts. IsFaultOf (parts_of_text text >>= definitions_of texts) f)
some_fault library text parts f r e some =
    (some.0, some.1, subst (λ j. IsFaultOf j f) (sym (ap (λ j. j >>= definitions_of some.0) r ∙ definitions_after some.0 parts e)) some.2)

pub some_taken : (library : Option Texts) (text : List ℕ) (parts : Parts) (taken : ModuleParts) → parts_of_text text ≡ Ok parts → params_fault parts.params ≡ None →
    parts.params ≡ form_of taken.params → parts.body ≡ form_of taken.body →
    ForSomeTexts library (λ texts. definitions_in texts parts.definitions ≡ Ok (all_written taken.definitions.items)) → ForSomeTexts library (λ texts. IsTakenApart text texts taken)
some_taken library text parts taken r e p b some =
    (some.0, some.1, record { parts = parts; reads = r; defines = definitions_after some.0 parts e ∙ some.2; params = p; body = b })

-- ---- an error handed on

abbrev error_or : {A : Type 0} → PartsFault → Result A PartsFault → PartsFault
error_or other (Ok found) = other
error_or other (Err f) = f

pub same_error : {A B : Type 0} (f g : PartsFault) (first : Result A PartsFault) (second : Result B PartsFault) → first ≡ Err f → first ≡ Err g → second ≡ Err f → second ≡ Err g
same_error f g first second a e b = b ∙ ap Err (sym (ap (error_or g) a) ∙ ap (error_or g) e)

pub same_fault : {A : Type 0} (f g : PartsFault) (result : Result A PartsFault) → IsErrAnd result (λ e. e ≡ f) → result ≡ Err g → f ≡ g
same_fault f g (Ok found) h is = absurd h
same_fault f g (Err e) h is = sym h ∙ ap (error_or g) is
