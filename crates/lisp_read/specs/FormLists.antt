-- Forms as lists, and what else a form is asked. Source: Chialisp reference.
use Rattle.std.specs.Prelude.{◌≡◌, ℕ, ◌+◌, ◌==◌, ◌<◌, List, [], ◌∷◌, length, Bool, true, false, Option, Some, None, option_map, option_and_then, bytes_eq}
use Rattle.lisp_read.specs.declared.place.Place.{Place}
use Rattle.lisp_read.specs.Copies.{size}
use Rattle.lisp_read.specs.Forms.{Form}
use Rattle.lisp_read.specs.Forms as form

-- whether a form is the empty atom, which ends a proper list
abbrev pub is_empty : Form → Bool
is_empty (form.Atom at []) = true
is_empty (form.Atom at (b ∷ bytes)) = false
is_empty (form.Symbol at name) = false
is_empty (form.Pair at first rest) = false

-- the elements of a proper list, which the empty atom ends
abbrev pub form_elements : Form → Option (List Form)
form_elements (form.Atom at []) = Some []
form_elements (form.Atom at (b ∷ bytes)) = None
form_elements (form.Symbol at name) = None
form_elements (form.Pair at first rest) = option_map (λ more. first ∷ more) (form_elements rest)

-- the proper list of forms, each pair of it at this place
abbrev pub form_list : Place → List Form → Form
form_list place [] = form.Atom place []
form_list place (first ∷ more) = form.Pair place first (form_list place more)

-- the form `(NAME X..)`, all that is new of it at this place
abbrev pub headed : Place → List ℕ → List Form → Form
headed place name operands = form.Pair place (form.Symbol place name) (form_list place operands)

-- the one element of a list of one
abbrev pub the_only : List Form → Option Form
the_only (f ∷ []) = Some f
the_only forms = None

abbrev pub single : Form → Option Form
single list = option_and_then the_only (form_elements list)

-- whether a form is this symbol, wherever it stands
abbrev pub is_symbol : List ℕ → Form → Bool
is_symbol name (form.Atom at bytes) = false
is_symbol name (form.Symbol at other) = bytes_eq other name
is_symbol name (form.Pair at first rest) = false

-- ---- lists of a known length

abbrev pub is_long : ℕ → Option (List Form) → Bool
is_long count None = false
is_long count (Some elements) = length elements == count

-- The list has this element alone.
pub record IsOnly (list only : Form) : Type 0 where
  pub elements : form_elements list ≡ Some (only ∷ [])
  pub small : size only < size list

-- The list has just these elements.
pub record AreThree (list a b c : Form) : Type 0 where
  pub elements : form_elements list ≡ Some (a ∷ b ∷ c ∷ [])
  pub small : size a + size b + size c + 3 < size list

abbrev pub IsNotOne : Form → Type 0
IsNotOne list = (only : Form) → form_elements list ≡ Some (only ∷ []) → ⊥

abbrev pub IsNotThree : Form → Type 0
IsNotThree list = (a b c : Form) → form_elements list ≡ Some (a ∷ b ∷ c ∷ []) → ⊥
