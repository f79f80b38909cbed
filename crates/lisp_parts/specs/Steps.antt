-- How the definitions of a module are walked along the texts that are open, and what is known of the library's texts by
-- then: what the contracts of the walk's steps say, no part of the definition. This project's own.
use Rattle.std.specs.Prelude.{◌≡◌, ℕ, suc, ◌+◌, ◌-◌, ◌*◌, ◌^◌, true, List, [], ◌∷◌, length, Option, Some, None, Result, Ok, Err, if◌then◌else◌}
use Rattle.std.specs.Option.{option_or}
use Rattle.lisp_spec.specs.Forms.{Form, Place, place_of_form}
use Rattle.lisp_spec.specs.BuiltIns.{built_in}
use Rattle.lisp_spec.specs.ModuleFaults.{NotAModule, IncludeMissing, fault, Judged, ◌>>=◌, is_among}
use Rattle.lisp_spec.specs.Definitions.{Written, Entry, Defines, Includes, Shapeless, entry_of}
use Rattle.lisp_spec.specs.Inclusion.{Walk, start, defined, Include, walked, forms_of_library, most_texts, Texts, if_short, next_text, entered, included}
use Rattle.lisp_parts.specs.declared.fault.PartsFault.{PartsFault}
use Rattle.lisp_parts.specs.Faults.{IsFaultOf}
use Rattle.lisp_parts.specs.Symbols.{HaveAsciiSymbols}

-- What is found is what is judged, as it is seen.
abbrev pub Finds : {A B : Type 0} → (A → B) → Judged B → Result A PartsFault → Type 0
Finds seen judged (Ok found) = judged ≡ Ok (seen found)
Finds seen judged (Err first) = IsFaultOf judged first

-- ---- texts

-- the definitions of a text that an include at this place asks for
abbrev pub forms_in : ℕ → Place → Option (List ℕ) → Judged (List Form)
forms_in number place None = Err (fault IncludeMissing place)
forms_in number place (Some text) = forms_of_library number text

-- those of the text of this name, where the library answers so
abbrev pub forms_named : ℕ → Place → List ℕ → Option (List ℕ) → Judged (List Form)
forms_named number place name answer = forms_in number place (option_or (built_in name) (if_short answer))

-- Texts are those that a library tells, if it tells them.
abbrev pub AreTold : Option Texts → Texts → Type 0
AreTold None texts = Unit {0}
AreTold (Some told) texts = texts ≡ told

-- Both have the same text of each of these names.
abbrev pub AgreeOn : List (List ℕ) → Texts → Texts → Type 0
AgreeOn names texts others = (name : List ℕ) → is_among name names ≡ true → texts name ≡ others name

-- Some texts are those that are told, and with all that agree with them on these names it holds.
pub record IsKnown (library : Option Texts) (names : List (List ℕ)) (Holds : Texts → Type 0) : Type 0 where
  pub texts : Texts
  pub told : AreTold library texts
  pub holds : (others : Texts) → AgreeOn names others texts → Holds others

-- For some texts that are told it holds.
abbrev pub ForSomeTexts : Option Texts → (Texts → Type 0) → Type 0
ForSomeTexts library Holds = (texts : Texts) × AreTold library texts × Holds texts

-- A call learns of more names: it keeps what is known of the earlier ones, and that these texts are told.
pub record Learns (library : Option Texts) (earlier names : List (List ℕ)) (Holds : Texts → Type 0) (known : Texts) : Type 0 where
  pub texts : Texts
  pub told : AreTold library known → AreTold library texts
  pub kept : AgreeOn earlier texts known
  pub grows : (name : List ℕ) → is_among name earlier ≡ true → is_among name names ≡ true
  pub holds : (others : Texts) → AgreeOn names others texts → Holds others

-- ---- steps

-- a walk after one form, and the forms of the text that it opened, if it did
pub record Step : Type 0 where
  pub walk : Walk
  pub inner : Option (List Form)

abbrev pub on : Walk → Step
on walk = record { walk = walk; inner = None }

abbrev pub into : Walk → List Form → Step
into walk forms = record { walk = walk; inner = Some forms }

abbrev pub opened : Texts → Place → List ℕ → Walk → Judged Step
opened texts place name walk =
    if is_among name walk.included then Ok (on walk)
    else forms_in (suc (length walk.included)) place (next_text texts walk name) >>= λ forms. Ok (into (entered name walk) forms)

abbrev pub stepped_entry : Texts → Place → Entry → Walk → Judged Step
stepped_entry texts place (Defines d) walk = defined d walk >>= λ next. Ok (on next)
stepped_entry texts place (Includes name) walk = opened texts place name walk
stepped_entry texts place Shapeless walk = Err (fault NotAModule place)

abbrev pub stepped : Texts → Form → Walk → Judged Step
stepped texts form walk = stepped_entry texts (place_of_form form) (entry_of form) walk

-- A step gives this walk and these forms.
abbrev pub StepsTo : Judged Step → Walk → Result (Option (List Form)) PartsFault → Type 0
StepsTo judged next (Ok inner) = judged ≡ Ok (record { walk = next; inner = inner })
StepsTo judged next (Err first) = IsFaultOf judged first

-- ---- all texts that are open

-- what is left of the forms of each, the innermost last
abbrev pub walked_levels : Include → List (List Form) → Walk → Judged Walk
walked_levels include [] walk = Ok walk
walked_levels include (forms ∷ inner) walk = walked_levels include inner walk >>= walked include forms

-- all definitions of these forms, with included ones in place
abbrev pub definitions_in : Texts → List Form → Judged (List Written)
definitions_in texts forms = walked (included texts) forms start >>= λ walk. Ok walk.definitions

-- ---- what is left to do falls

-- Fewer texts may be added, each with fewer forms than this.
abbrev pub texts_left : Walk → ℕ
texts_left walk = (most_texts - length walk.included) * 2 ^ 64

abbrev pub inner_left : Option (List Form) → ℕ
inner_left None = 0
inner_left (Some forms) = length forms + 1

abbrev pub InnerAscii : Option (List Form) → Type 0
InnerAscii None = Unit {0}
InnerAscii (Some forms) = HaveAsciiSymbols forms
