-- The forms of a text, by those that are read and what is read on.
use Rattle.std.specs.Prelude.{Option}
use Rattle.std.proofs.Common.{◌≡◌, ℕ, ◌<◌, List, [], ◌∷◌, ◌++◌, length, None, Some, refl, sym, ◌∙◌, ap, arith}
use Rattle.clvm_spec.specs.declared.scan_kind.ScanKind.{ScanKind}
use Rattle.clvm_spec.specs.declared.scan_kind.ScanKind.TheVariants as kind
use Rattle.clvm_spec.specs.Tokens.{Front, Token, Took, Unread, AtEnd, token_of}
use Rattle.open_lists.specs.declared.fault.Fault.{Fault}
use Rattle.open_lists.specs.declared.fault.Fault.TheVariants as fault_as
use Rattle.open_lists.specs.Lists.{told}
use Rattle.open_lists.specs.Faults.{IsFirstFault, IsBroken}
use Rattle.open_lists.specs.Steps.{Leads}
use Rattle.open_lists.proofs.FaultLaws.{broken}
use Rattle.open_lists.proofs.StepLaws.{end_told}
use Rattle.lisp_read.specs.declared.form.Form as seen
use Rattle.lisp_read.specs.declared.place.Place.{Place}
use Rattle.lisp_read.specs.Forms.{Form}
use Rattle.lisp_read.specs.Views.{form_of}
use Rattle.lisp_read.specs.Grammar.{Places, ParsedForm, Read, Reads, Unreadable, with_form, with_forms, forms_at, forms_from}
use Rattle.lisp_read.specs.Laws.{after}
use Rattle.lisp_read.specs.Faults.{IsReadFault}
use Rattle.lisp_read.specs.Parsing.{reading, Lists, IsKnown, answered}
use Rattle.lisp_read.proofs.BoundLaws.{forms_step}

-- ---- forms before what is read

pub after_push : (forms : List Form) (form : Form) (read : Read) → after (forms ++ form ∷ []) read ≡ after forms (with_form form read)
after_push [] form read = refl
after_push (f ∷ forms) form read = ap (with_form f) (after_push forms form read)

pub after_all : (forms : List Form) → after forms (Reads []) ≡ Reads forms
after_all [] = refl
after_all (f ∷ forms) = ap (with_form f) (after_all forms)

after_fault : (forms : List Form) (what : ScanKind) (at : ℕ) → after forms (Unreadable what at) ≡ Unreadable what at
after_fault [] what at = refl
after_fault (f ∷ forms) what at = ap (with_form f) (after_fault forms what at)

-- ---- what is read on

abbrev pub read_on : Places → Lists → Front → Read
read_on there [] front = forms_at there (forms_from there) front
read_on there (list ∷ inner) front = with_forms (forms_from there) (told (reading there) 0 (list ∷ inner) front)

took : (there : Places) (items : Lists) (token : Token) (from rest : List ℕ) → read_on there items (Took token from rest) ≡ with_forms (forms_from there) (told (reading there) 0 items (Took token from rest))
took there [] token from rest = refl
took there (l ∷ items) token from rest = refl

where_open : (there : Places) (items : Lists) (front : Front) → 0 < length items → read_on there items front ≡ with_forms (forms_from there) (told (reading there) 0 items front)
where_open there [] front h = absurd (omega (arith, h))
where_open there (l ∷ items) front h = refl

pub goes_on : (there : Places) (items new : Lists) (token : Token) (from rest : List ℕ) → Leads (reading there) new rest None (told (reading there) 0 items (Took token from rest)) → read_on there items (Took token from rest) ≡ read_on there new (token_of rest)
goes_on there items new token from rest h =
    took there items token from rest ∙ ap (with_forms (forms_from there)) h.1 ∙ sym (where_open there new (token_of rest) h.0)

pub gives : (there : Places) (items new : Lists) (token : Token) (from rest : List ℕ) (form : seen.Form) → Leads (reading there) new rest (Some form) (told (reading there) 0 items (Took token from rest)) →
    read_on there items (Took token from rest) ≡ with_form (form_of form) (read_on there new (token_of rest))
gives there items new token from rest form h =
    took there items token from rest ∙ ap (with_forms (forms_from there)) h.1
    ∙ ap (with_form (form_of form)) (forms_step there rest) ∙ ap (λ l. with_form (form_of form) (read_on there l (token_of rest))) (sym h.0)

-- ---- faults

fault_read : (there : Places) (forms : List Form) (read : Read) (more : List ℕ → Read) (fault : Fault Place) (parsed : ParsedForm) → read ≡ after forms (with_forms more parsed) → IsBroken (reading there) fault parsed → IsReadFault read (answered fault)
fault_read there forms read more (fault_as.At what at) parsed e h = e ∙ ap (λ p. after forms (with_forms more p)) h ∙ after_fault forms what at.at
fault_read there forms read more (fault_as.Unknown place) parsed e h = tt
fault_read there forms read more fault_as.OutOfMemory parsed e h = tt

-- A fault is no unknown symbol.
pub known : (there : Places) (fault : Fault Place) (parsed : ParsedForm) → IsBroken (reading there) fault parsed → IsKnown fault
known there (fault_as.At what at) parsed h = tt
known there (fault_as.Unknown place) parsed h = not_unknown place h.1.is
  where
    not_unknown : (place : Place) → None ≡ Some place → ⊥
    not_unknown place e = cc
known there fault_as.OutOfMemory parsed h = tt

pub token_stops : (there : Places) (forms : List Form) (read : Read) (items : Lists) (token : Token) (from rest : List ℕ) (fault : Fault Place) → read ≡ after forms (read_on there items (Took token from rest)) →
    IsBroken (reading there) fault (told (reading there) 0 items (Took token from rest)) → IsReadFault read (answered fault)
token_stops there forms read items token from rest fault e h =
    fault_read there forms read (forms_from there) fault (told (reading there) 0 items (Took token from rest)) (e ∙ ap (after forms) (took there items token from rest)) h

unread_told : (there : Places) (items : Lists) (what : ScanKind) (from : List ℕ) → read_on there items (Unread what from) ≡ with_forms (forms_from there) (told (reading there) 0 items (Unread what from))
unread_told there [] what from = refl
unread_told there (l ∷ items) what from = refl

pub unread_stops : (there : Places) (forms : List Form) (read : Read) (items : Lists) (what : ScanKind) (from : List ℕ) (fault : Fault Place) → read ≡ after forms (read_on there items (Unread what from)) →
    IsFirstFault (reading there) fault (told (reading there) 0 items (Unread what from)) → IsReadFault read (answered fault)
unread_stops there forms read items what from fault e h =
    fault_read there forms read (forms_from there) fault (told (reading there) 0 items (Unread what from)) (e ∙ ap (after forms) (unread_told there items what from))
    (broken (reading there) fault (told (reading there) 0 items (Unread what from)) h)

pub end_stops : (there : Places) (forms : List Form) (read : Read) (items : Lists) (fault : Fault Place) → read ≡ after forms (read_on there items AtEnd) → 0 < length items →
    IsFirstFault (reading there) fault (told (reading there) 0 items (Unread kind.End [])) → IsReadFault read (answered fault)
end_stops there forms read items fault e some h =
    fault_read there forms read (forms_from there) fault (told (reading there) 0 items (Unread kind.End []))
    (e ∙ ap (after forms) (where_open there items AtEnd some) ∙ ap (λ p. after forms (with_forms (forms_from there) p)) (end_told (reading there) items some))
    (broken (reading there) fault (told (reading there) 0 items (Unread kind.End [])) h)

pub end_reads : (there : Places) (forms : List Form) (read : Read) (items : Lists) → read ≡ after forms (read_on there items AtEnd) → items ≡ [] → read ≡ Reads forms
end_reads there forms read items e none = e ∙ ap (λ l. after forms (read_on there l AtEnd)) none ∙ after_all forms

pub none_of : (done : Option seen.Form) → ((form : seen.Form) → done ≡ Some form → ⊥) → done ≡ None
none_of None h = refl
none_of (Some form) h = absurd (h form refl)
