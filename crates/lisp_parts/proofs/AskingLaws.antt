-- Where a library is asked, its text is needed.
use Rattle.std.proofs.Common.{◌≡◌, ℕ, suc, cond, List, [], ◌∷◌, ◌++◌, length, Option, Some, None, Ok, Err, refl, sym, ap, ◌∙◌}
use Rattle.std.specs.Option.{option_or}
use Rattle.std.proofs.lemmas.Bool.{lt-ltb}
use Rattle.clvm_spec.specs.Tokens.{token_of}
use Rattle.lisp_read.specs.Grammar.{forms_of}
use Rattle.lisp_spec.specs.Forms.{Form, Place, place_of_form}
use Rattle.lisp_spec.specs.ModuleFaults.{Kind, IncludeMissing, NotAModule, fault, text_start, Judged, ◌>>=◌}
use Rattle.lisp_spec.specs.Definitions.{Written, Includes, entry_of}
use Rattle.lisp_spec.specs.Inclusion.{Walk, Parts, Texts, most_texts, if_short, text_named, next_text, entered, forms_of_library, included, params_fault, parts_of_text, definitions_of}
use Rattle.lisp_spec.specs.InclusionLaws.{AreNumbered}
use Rattle.lisp_parts.specs.Steps.{IsKnown, ForSomeTexts, Step, on, into, forms_in, opened, stepped_entry, stepped, walked_levels, definitions_in}
use Rattle.lisp_parts.specs.Asking.{with_answer, AsksFor, TextAsks, IsAskedFor, FormAsks}
use Rattle.lisp_parts.proofs.WalkLaws.{opened_levels, after_step, all_of, IsLeft}
use Rattle.lisp_parts.proofs.OpeningLaws.{answered, others_stay}
use Rattle.lisp_parts.proofs.WholeLaws.{definitions_after}

-- ---- one form

abbrev entering : Place → List ℕ → Walk → Option (List ℕ) → Judged Step
entering place name walk text = forms_in (suc (length walk.included)) place text >>= λ forms. Ok (into (entered name walk) forms)

opens_answer : (texts : Texts) (place : Place) (name : List ℕ) (walk : Walk) (answer : Option (List ℕ)) → IsAskedFor name walk → texts name ≡ answer →
    opened texts place name walk ≡ entering place name walk (if_short answer)
opens_answer texts place name walk answer asked is =
    ap (λ b. cond b (Ok (on walk)) (entering place name walk (next_text texts walk name))) asked.new
    ∙ ap (λ b. entering place name walk (cond b (text_named texts name) None)) (lt-ltb (length walk.included) most_texts asked.room)
    ∙ ap (λ own. entering place name walk (option_or own (if_short (texts name)))) asked.not_built_in
    ∙ ap (λ text. entering place name walk (if_short text)) is

steps_to_answer : (texts : Texts) (form : Form) (name : List ℕ) (walk : Walk) (answer : Option (List ℕ)) → entry_of form ≡ Includes name → IsAskedFor name walk → texts name ≡ answer →
    stepped texts form walk ≡ entering (place_of_form form) name walk (if_short answer)
steps_to_answer texts form name walk answer e asked is =
    ap (λ entry. stepped_entry texts (place_of_form form) entry walk) e ∙ opens_answer texts (place_of_form form) name walk answer asked is

-- ---- all forms

-- the walk behind a form that opened a text
abbrev behind : Texts → List (List Form) → Judged Step → Judged (List Written)
behind texts levels step = (step >>= λ s. walked_levels (included texts) (opened_levels levels s.inner) s.walk) >>= all_of

reaches : (texts : Texts) (forms : List Form) (levels more : List (List Form)) (form : Form) (rest : List Form) (name : List ℕ) (walk : Walk) (answer : Option (List ℕ)) →
    AreNumbered walk → levels ≡ more ++ (form ∷ rest) ∷ [] → IsLeft forms levels walk texts → entry_of form ≡ Includes name → IsAskedFor name walk → texts name ≡ answer →
    definitions_in texts forms ≡ behind texts (more ++ rest ∷ []) (entering (place_of_form form) name walk (if_short answer))
reaches texts forms levels more form rest name walk answer n l left e asked is =
    left
    ∙ ap (λ ls. walked_levels (included texts) ls walk >>= all_of) l
    ∙ ap (λ j. j >>= all_of) (after_step texts more form rest walk n)
    ∙ ap (behind texts (more ++ rest ∷ [])) (steps_to_answer texts form name walk answer e asked is)

-- The empty text is no library's.
empty_text : (number : ℕ) → forms_of_library number [] ≡ Err (fault NotAModule (text_start number))
unfolding forms_of token_of
empty_text number = refl

abbrev kind_in : {A : Type 0} → Judged A → Kind
kind_in (Ok found) = IncludeMissing
kind_in (Err first) = first.kind

not_both : {A : Type 0} (place start : Place) (judged : Judged A) → judged ≡ Err (fault NotAModule start) → judged ≡ Err (fault IncludeMissing place) → ⊥
not_both place start judged e f = let both : NotAModule ≡ IncludeMissing = ap kind_in (sym e ∙ f) in absurd cc

pub asks_step : (library : Option Texts) (forms : List Form) (levels more : List (List Form)) (form : Form) (rest : List Form) (walk : Walk) →
    AreNumbered walk → levels ≡ more ++ (form ∷ rest) ∷ [] → IsKnown library walk.included (IsLeft forms levels walk) → FormAsks form walk →
    ForSomeTexts library (AsksFor (λ texts. definitions_in texts forms))
asks_step library forms levels more form rest walk n l k a =
    let name = a.0 in
    let missing = with_answer k.texts name None in
    let empty = with_answer k.texts name (Some []) in (
      k.texts,
      k.told,
      record {
        name = name;
        not_built_in = a.2.not_built_in;
        place = place_of_form form;
        missing = reaches missing forms levels more form rest name walk None n l (k.holds missing (others_stay k.texts name None walk.included a.2.new)) a.1 a.2 (answered k.texts name None);
        text = [];
        found = not_both (place_of_form form) (text_start (suc (length walk.included))) (definitions_in empty forms)
            (reaches empty forms levels more form rest name walk (Some []) n l (k.holds empty (others_stay k.texts name (Some []) walk.included a.2.new)) a.1 a.2 (answered k.texts name (Some []))
            ∙ ap (λ j. behind empty (more ++ rest ∷ []) (j >>= λ found. Ok (into (entered name walk) found))) (empty_text (suc (length walk.included))));
      },
    )

-- ---- the text

defined_by : (texts : Texts) (text : List ℕ) (parts : Parts) → parts_of_text text ≡ Ok parts → params_fault parts.params ≡ None → (parts_of_text text >>= definitions_of texts) ≡ definitions_in texts parts.definitions
defined_by texts text parts r e = ap (λ j. j >>= definitions_of texts) r ∙ definitions_after texts parts e

pub text_asks : (library : Option Texts) (text : List ℕ) (parts : Parts) → parts_of_text text ≡ Ok parts → params_fault parts.params ≡ None →
    ForSomeTexts library (AsksFor (λ texts. definitions_in texts parts.definitions)) → ForSomeTexts library (TextAsks text)
text_asks library text parts r e asks =
    let a = asks.2 in (
      asks.0,
      asks.1,
      record {
        name = a.name;
        not_built_in = a.not_built_in;
        place = a.place;
        missing = defined_by (with_answer asks.0 a.name None) text parts r e ∙ a.missing;
        text = a.text;
        found = λ same. a.found (sym (defined_by (with_answer asks.0 a.name (Some a.text)) text parts r e) ∙ same);
      },
    )
