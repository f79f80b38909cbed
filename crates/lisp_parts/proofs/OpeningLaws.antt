-- What an include learns of a library's texts.
use Rattle.std.proofs.Common.{◌≡◌, ℕ, suc, ◌+◌, ◌^◌, ◌<◌, ◌≤◌, Bool, true, false, ◌||◌, cond, List, [], ◌∷◌, ◌++◌, length, Option, Some, None, Result, Ok, Err, refl, sym, ap, ◌∙◌, subst, arith, length-append}
use Rattle.std.specs.Prelude.{bytes_eq, nat_lt}
use Rattle.std.specs.Option.{option_or}
use Rattle.std.proofs.lemmas.Bool.{lt-ltb}
use Rattle.std.proofs.lemmas.Bool.Decides.{nat_tests}
use Rattle.std.proofs.lemmas.List.Folds.{list_any-append}
use Rattle.std.proofs.lemmas.Slice.Eq.{bytes_eq-Decides}
use Rattle.lisp_spec.specs.Forms.{Form, Place}
use Rattle.lisp_spec.specs.BuiltIns.{built_in}
use Rattle.lisp_spec.specs.ModuleFaults.{Judged, ◌>>=◌, is_among}
use Rattle.lisp_spec.specs.Definitions.{Written}
use Rattle.lisp_spec.specs.Inclusion.{Walk, most_texts, if_short, Texts, text_named, next_text, entered}
use Rattle.ports_io.specs.Outside.{IsTextOf}
use Rattle.lisp_parts.specs.declared.fault.PartsFault.{PartsFault}
use Rattle.lisp_parts.specs.declared.fault.PartsFault.TheVariants.{IncludeMissing}
use Rattle.lisp_parts.specs.Faults.{IsFaultOf}
use Rattle.lisp_parts.specs.Steps.{Finds, forms_in, forms_named, AreTold, AgreeOn, Learns, Step, on, into, opened, StepsTo, texts_left, inner_left}
use Rattle.lisp_parts.specs.Asking.{with_answer}
use Rattle.lisp_parts.proofs.WalkLaws.{first_fault}

abbrev pub walk_with : List (List ℕ) → List Written → Walk
walk_with included definitions = record { included = included; definitions = definitions }

-- ---- names among names

true_or : (a b : Bool) → a ≡ true → (a || b) ≡ true
true_or true b e = refl
true_or false b e = cc

or_true : (a b : Bool) → b ≡ true → (a || b) ≡ true
or_true true b e = refl
or_true false b e = e

pub among_more : (name : List ℕ) (names more : List (List ℕ)) → is_among name names ≡ true → is_among name (names ++ more) ≡ true
among_more name names more e = list_any-append (bytes_eq name) names more ∙ true_or (is_among name names) (is_among name more) e

pub among_last : (name : List ℕ) (names : List (List ℕ)) → is_among name (names ++ name ∷ []) ≡ true
among_last name names =
    list_any-append (bytes_eq name) names (name ∷ [])
    ∙ or_true (is_among name names) (is_among name (name ∷ [])) (true_or (bytes_eq name name) false ((bytes_eq-Decides name name).1 refl))

-- ---- one more answer

pub answered : (known : Texts) (name : List ℕ) (answer : Option (List ℕ)) → with_answer known name answer name ≡ answer
answered known name answer = ap (λ b. cond b answer (known name)) ((bytes_eq-Decides name name).1 refl)

pub others_stay : (known : Texts) (name : List ℕ) (answer : Option (List ℕ)) (names : List (List ℕ)) → is_among name names ≡ false → AgreeOn names (with_answer known name answer) known
others_stay known name answer names new asked among = by (bytes_eq asked name) refl
  where
    by : (b : Bool) → bytes_eq asked name ≡ b → cond b answer (known asked) ≡ known asked
    by true e = let same : asked ≡ name = (bytes_eq-Decides asked name).0 e in let both : is_among asked names ≡ false = ap (λ n. is_among n names) same ∙ new in absurd cc
    by false e = refl

still_told : (library : Option Texts) (known : Texts) (name : List ℕ) (answer : Option (List ℕ)) → IsTextOf name library answer → AreTold library known → AreTold library (with_answer known name answer)
still_told None known name answer is told = tt
still_told (Some texts) known name answer is told = λ j asked. point asked j
  where
    by : (asked : List ℕ) (b : Bool) → bytes_eq asked name ≡ b → cond b answer (known asked) ≡ texts asked
    by asked true e = is ∙ ap texts (sym ((bytes_eq-Decides asked name).0 e))
    by asked false e = ap (λ t. t asked) told

    point : (asked : List ℕ) → with_answer known name answer asked ≡ texts asked
    point asked = by asked (bytes_eq asked name) refl

-- ---- an include

pub knows_already : (library : Option Texts) (place : Place) (name : List ℕ) (before after : List (List ℕ)) (definitions : List Written) → is_among name before ≡ true → after ≡ before →
    (known : Texts) → Learns library before after (λ texts. StepsTo (opened texts place name (walk_with before definitions)) (walk_with after definitions) (Ok None)) known
knows_already library place name before after definitions among same known = record {
  texts = known;
  told = λ t. t;
  kept = λ asked a. refl;
  grows = λ asked a. subst (λ names. is_among asked names ≡ true) (sym same) a;
  holds = λ others agree.
      ap (λ b. cond b (Ok (on (walk_with before definitions))) (forms_in (suc (length before)) place (next_text others (walk_with before definitions) name) >>= λ forms. Ok (into (entered name (walk_with before definitions)) forms))) among
      ∙ ap (λ names. Ok (on (walk_with names definitions))) (sym same);
}

-- without memory nothing is said
pub learns_nothing : (library : Option Texts) (before after : List (List ℕ)) (Holds : Texts → Type 0) → after ≡ before → ((texts : Texts) → Holds texts) → (known : Texts) → Learns library before after Holds known
learns_nothing library before after Holds same s known = record {
  texts = known;
  told = λ t. t;
  kept = λ asked a. refl;
  grows = λ asked a. subst (λ names. is_among asked names ≡ true) (sym same) a;
  holds = λ others agree. s others;
}

-- what an include opens where its name is new
opens : (texts : Texts) (place : Place) (name : List ℕ) (before : List (List ℕ)) (definitions : List Written) → is_among name before ≡ false →
    opened texts place name (walk_with before definitions) ≡ (forms_in (suc (length before)) place (next_text texts (walk_with before definitions) name) >>= λ forms. Ok (into (walk_with (before ++ name ∷ []) definitions) forms))
opens texts place name before definitions new =
    ap (λ b. cond b (Ok (on (walk_with before definitions))) (forms_in (suc (length before)) place (next_text texts (walk_with before definitions) name) >>= λ forms. Ok (into (walk_with (before ++ name ∷ []) definitions) forms))) new

few : (n : ℕ) → n < most_texts → nat_lt n most_texts ≡ true
few n l = lt-ltb n most_texts l

many : (n : ℕ) → most_texts ≤ n → nat_lt n most_texts ≡ false
many n l = grind (arith, nat_tests, l)

pub has_too_many : (library : Option Texts) (place : Place) (name : List ℕ) (before after : List (List ℕ)) (definitions : List Written) → is_among name before ≡ false → after ≡ before ++ name ∷ [] → most_texts < length after →
    (known : Texts) → Learns library before after (λ texts. StepsTo (opened texts place name (walk_with before definitions)) (walk_with after definitions) (Err (IncludeMissing place))) known
has_too_many library place name before after definitions new last long known =
    let n : most_texts ≤ length before = omega (arith, ap length last, length-append before (name ∷ [])) in
    record {
      texts = known;
      told = λ t. t;
      kept = λ asked a. refl;
      grows = λ asked a. subst (λ names. is_among asked names ≡ true) (sym last) (among_more asked before (name ∷ []) a);
      holds = λ others agree.
          opens others place name before definitions new
          ∙ ap (λ b. forms_in (suc (length before)) place (cond b (text_named others name) None) >>= λ forms. Ok (into (walk_with (before ++ name ∷ []) definitions) forms)) (many (length before) n);
    }

abbrev pub inner_of : Result (List Form) PartsFault → Result (Option (List Form)) PartsFault
inner_of (Ok forms) = Ok (Some forms)
inner_of (Err f) = Err f

found_opens : (j : Judged (List Form)) (step : Judged Step) (next : Walk) (found : Result (List Form) PartsFault) → step ≡ (j >>= λ forms. Ok (into next forms)) → Finds (λ f. f) j found → StepsTo step next (inner_of found)
found_opens j step next (Ok forms) s e = s ∙ ap (λ i. i >>= λ fs. Ok (into next fs)) e
found_opens j step next (Err f) s e = subst (λ i. IsFaultOf i f) (sym s) (first_fault j (λ fs. Ok (into next fs)) f e)

pub has_opened : (library : Option Texts) (place : Place) (name : List ℕ) (before after : List (List ℕ)) (definitions : List Written) (number : ℕ) (answer : Option (List ℕ)) (found : Result (List Form) PartsFault) →
    is_among name before ≡ false → after ≡ before ++ name ∷ [] → number ≡ length after → length after ≤ most_texts → IsTextOf name library answer → Finds (λ f. f) (forms_named number place name answer) found →
    (known : Texts) → Learns library before after (λ texts. StepsTo (opened texts place name (walk_with before definitions)) (walk_with after definitions) (inner_of found)) known
has_opened library place name before after definitions number answer found new last count room is finds known =
    let long : length after ≡ suc (length before) = omega (arith, ap length last, length-append before (name ∷ [])) in
    let n : length before < most_texts = omega (arith, long, room) in
    record {
      texts = with_answer known name answer;
      told = still_told library known name answer is;
      kept = others_stay known name answer before new;
      grows = λ asked a. subst (λ names. is_among asked names ≡ true) (sym last) (among_more asked before (name ∷ []) a);
      holds = λ others agree.
          let same : others name ≡ answer = agree name (subst (λ names. is_among name names ≡ true) (sym last) (among_last name before)) ∙ answered known name answer in
          found_opens (forms_named number place name answer) (opened others place name (walk_with before definitions)) (walk_with after definitions) found
          (opens others place name before definitions new
          ∙ ap (λ b. forms_in (suc (length before)) place (cond b (text_named others name) None) >>= λ forms. Ok (into (walk_with (before ++ name ∷ []) definitions) forms)) (few (length before) n)
          ∙ ap (λ t. forms_in (suc (length before)) place (option_or (built_in name) (if_short t)) >>= λ forms. Ok (into (walk_with (before ++ name ∷ []) definitions) forms)) same
          ∙ ap (λ k. forms_named k place name answer >>= λ forms. Ok (into (walk_with (before ++ name ∷ []) definitions) forms)) (sym (count ∙ long))
          ∙ ap (λ names. forms_named number place name answer >>= λ forms. Ok (into (walk_with names definitions) forms)) (sym last))
          finds;
    }

-- ---- what is left to add

pub one_text_less : (name : List ℕ) (before after : List (List ℕ)) (definitions : List Written) (forms : List Form) → after ≡ before ++ name ∷ [] → length after ≤ most_texts → length forms < 2 ^ 64 →
    texts_left (walk_with after definitions) + inner_left (Some forms) ≤ texts_left (walk_with before definitions)
one_text_less name before after definitions forms last room short =
    let long : length after ≡ suc (length before) = omega (arith, ap length last, length-append before (name ∷ [])) in
    omega (arith, long, room, short)

pub no_text_less : (before after : List (List ℕ)) (definitions others : List Written) → after ≡ before → texts_left (walk_with after others) + inner_left None ≤ texts_left (walk_with before definitions)
no_text_less before after definitions others same = omega (arith, ap length same)
