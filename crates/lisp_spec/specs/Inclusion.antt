-- The shape of a module, its definitions in the order of the text, with included ones in place, and their names.
-- Source: Chialisp reference; the limits and the faults are this project's own.
use Rattle.std.specs.Prelude.{ℕ, zero, suc, List, [], ◌∷◌, ◌++◌, length, take, get_or, Option, Some, None, Ok, Err, ok_or, nat_lt, nat_le, codes, ◌&&◌, if◌then◌else◌}
use Rattle.std.specs.Option.{option_or}
use Rattle.clvm_spec.specs.declared.limits.TheConstants.{MOST_SPELLED}
use Rattle.lisp_spec.specs.declared.limits.TheConstants.{MOST_TEXTS}
use Rattle.lisp_read.specs.Grammar.{Read, Reads, forms_of}
use Rattle.lisp_read.specs.Grammar as grammar
use Rattle.lisp_spec.specs.Forms.{Form, Place, place_of_form}
use Rattle.lisp_read.specs.FormLists.{form_elements, the_only, is_symbol}
use Rattle.lisp_spec.specs.Heads.{is_reserved}
use Rattle.lisp_spec.specs.Parameters.{Parameter, parameters, is_parameter_tree}
use Rattle.lisp_spec.specs.BuiltIns.{built_in}
use Rattle.lisp_spec.specs.ModuleFaults.{Unreadable, NotAModule, NameTwice, IncludeMissing, Fault, fault, text_start, Judged, ◌>>=◌, unless, is_among}
use Rattle.lisp_spec.specs.Definitions.{Written, Entry, Defines, Includes, Shapeless, entry_of, names_of}

-- ---- the walk along the definitions

-- the names of the texts that are included so far, and the definitions so far
pub record Walk : Type 0 where
  pub included : List (List ℕ)
  pub definitions : List Written

abbrev pub start : Walk
start = record { included = []; definitions = [] }

-- The names of one tree of parameters are distinct.
abbrev pub second_of_a_name : List (List ℕ) → List Parameter → Option Fault
second_of_a_name earlier [] = None
second_of_a_name earlier (p ∷ more) =
    if is_among p.name earlier then Some (fault NameTwice p.place) else second_of_a_name (p.name ∷ earlier) more

abbrev pub params_fault : Form → Option Fault
params_fault params = second_of_a_name [] (parameters params)

-- The names of definitions are distinct, and none is a name of the language.
abbrev pub name_fault : Walk → Written → Option Fault
name_fault walk d =
    if is_reserved d.name then Some (fault NotAModule d.name_place)
    else if is_among d.name (names_of walk.definitions) then Some (fault NameTwice d.name_place)
    else params_fault d.params

abbrev pub defined : Written → Walk → Judged Walk
defined d walk = unless (name_fault walk d) (record walk { definitions = walk.definitions ++ d ∷ [] })

-- what an include at a place adds
abbrev pub Include : Type 0
Include = Place → List ℕ → Walk → Judged Walk

abbrev pub walked_entry : Include → Place → Entry → Walk → Judged Walk
walked_entry include place (Defines d) walk = defined d walk
walked_entry include place (Includes name) walk = include place name walk
walked_entry include place Shapeless walk = Err (fault NotAModule place)

abbrev pub walked : Include → List Form → Walk → Judged Walk
walked include [] walk = Ok walk
walked include (f ∷ forms) walk = walked_entry include (place_of_form f) (entry_of f) walk >>= walked include forms

-- ---- texts

-- A text has exactly one form.
abbrev pub the_one : ℕ → List Form → Judged Form
the_one number forms = ok_or (the_only forms) (fault NotAModule (text_start number))

abbrev pub read : ℕ → Read → Judged (List Form)
read number (Reads forms) = Ok forms
read number (grammar.Unreadable kind at) = Err (fault (Unreadable kind) (record { text = number; at = at }))

abbrev pub form_of_text : ℕ → List ℕ → Judged Form
form_of_text number text = read number (forms_of number text) >>= the_one number

-- A library's form is a proper list of definitions.
abbrev pub forms_of_library : ℕ → List ℕ → Judged (List Form)
forms_of_library number text = form_of_text number text >>= λ f. ok_or (form_elements f) (fault NotAModule (text_start number))

-- ---- includes

-- texts by their names
abbrev pub Texts : Type 0
Texts = List ℕ → Option (List ℕ)

-- the most bytes of a library's text
abbrev pub longest_text : ℕ
longest_text = MOST_SPELLED

-- the most texts that a module includes
abbrev pub most_texts : ℕ
most_texts = MOST_TEXTS

abbrev pub if_short : Option (List ℕ) → Option (List ℕ)
if_short None = None
if_short (Some text) = if nat_le (length text) longest_text then Some text else None

-- A built-in name is taken before the library's.
abbrev pub text_named : Texts → List ℕ → Option (List ℕ)
text_named texts name = option_or (built_in name) (if_short (texts name))

-- No text is added where there are so many that the next had no number.
abbrev pub next_text : Texts → Walk → List ℕ → Option (List ℕ)
next_text texts walk name = if nat_lt (length walk.included) most_texts then text_named texts name else None

abbrev pub entered : List ℕ → Walk → Walk
entered name walk = record walk { included = walk.included ++ name ∷ [] }

abbrev pub with_text : Include → Place → List ℕ → Walk → Option (List ℕ) → Judged Walk
with_text include place name walk None = Err (fault IncludeMissing place)
with_text include place name walk (Some text) =
    forms_of_library (suc (length walk.included)) text >>= λ forms. walked include forms (entered name walk)

-- A name that the module has included already adds nothing. Texts that are walked within each other have other names
-- each, so the first number, which is more than the texts there may be, only bounds the recursion.
abbrev pub included_within : ℕ → Texts → Include
included_within zero texts place name walk = Err (fault IncludeMissing place)
included_within (suc bound) texts place name walk =
    if is_among name walk.included then Ok walk
    else with_text (included_within bound texts) place name walk (next_text texts walk name)

abbrev pub included : Texts → Include
included texts = included_within (suc most_texts) texts

-- ---- the module

-- the parts of (mod PARAMS definition.. body)
pub record Parts : Type 0 where
  pub params : Form
  pub definitions : List Form
  pub body : Form

-- The last form is the body.
abbrev pub parts : Form → Form → Form → List Form → Option Parts
parts head params f forms =
    if is_symbol (codes "mod") head && is_parameter_tree params
    then Some (record { params = params; definitions = take (length forms) (f ∷ forms); body = get_or (f ∷ forms) (length forms) f })
    else None

abbrev pub parts_of : Option (List Form) → Option Parts
parts_of (Some (head ∷ params ∷ f ∷ forms)) = parts head params f forms
parts_of other = None

-- What isn't of this shape is no module, wherever its form begins.
abbrev pub parts_of_text : List ℕ → Judged Parts
parts_of_text text = form_of_text 0 text >>= λ f. ok_or (parts_of (form_elements f)) (fault NotAModule (text_start 0))

-- all definitions of a module, with included ones in place
abbrev pub definitions_of : Texts → Parts → Judged (List Written)
definitions_of texts parts = do
  params ← unless (params_fault parts.params) parts.params
  walk ← walked (included texts) parts.definitions start
  Ok walk.definitions
