-- Forms as lists: how a form is stored where a type of the program is seen as forms. Source: this project's own.
use Rattle.std.specs.Prelude.{◌≡◌, ℕ, List, [], ◌∷◌, ◌++◌, Option, Some, None, refl, Bool, true, false}
use Rattle.std.specs.Coded.{Coded, code_by, coded_list, coded_option, coded_ℕ, coded_bool, coded×}
use Rattle.std.proofs.Common.{◌∙◌, ap, append_assoc}
use Rattle.lisp_read.specs.declared.place.Place.{Place}
use Rattle.lisp_read.specs.Forms.{Form, Atom, Symbol, Pair}

-- where a part of a form begins, and what it is: an atom, a symbol or a pair
abbrev pub Mark : Type 0
Mark = (ℕ × ℕ) × Option (Bool × List ℕ)

abbrev pub marked : Place → (ℕ × ℕ)
marked place = (place.text, place.at)

abbrev pub placed : (ℕ × ℕ) → Place
placed mark = record { text = mark.0; at = mark.1 }

-- the leaves from the left, and a mark behind the two parts of each pair
abbrev pub postfix : Form → List Mark
postfix (Atom place bytes) = (marked place, Some (false, bytes)) ∷ []
postfix (Symbol place name) = (marked place, Some (true, name)) ∷ []
postfix (Pair place first rest) = postfix first ++ (postfix rest ++ (marked place, None) ∷ [])

-- the forms on a stack after these marks, the newest first
abbrev pub stacked : List Form → List Mark → List Form
stacked stack [] = stack
stacked stack ((place, Some (false, bytes)) ∷ marks) = stacked (Atom (placed place) bytes ∷ stack) marks
stacked stack ((place, Some (true, name)) ∷ marks) = stacked (Symbol (placed place) name ∷ stack) marks
stacked [] ((place, None) ∷ marks) = stacked [] marks
stacked (form ∷ []) ((place, None) ∷ marks) = stacked (form ∷ []) marks
stacked (rest ∷ first ∷ stack) ((place, None) ∷ marks) = stacked (Pair (placed place) first rest ∷ stack) marks

abbrev pub newest : List Form → Form
newest [] = Atom (placed (0, 0)) []
newest (form ∷ stack) = form

pub stacked-postfix : (form : Form) (stack : List Form) (marks : List Mark) → stacked stack (postfix form ++ marks) ≡ stacked (form ∷ stack) marks
stacked-postfix (Atom place bytes) stack marks = refl
stacked-postfix (Symbol place name) stack marks = refl
stacked-postfix (Pair place first rest) stack marks =
    ap (stacked stack) (append_assoc (postfix first) (postfix rest ++ (marked place, None) ∷ []) marks ∙ ap (λ more. postfix first ++ more) (append_assoc (postfix rest) ((marked place, None) ∷ []) marks))
    ∙ stacked-postfix first stack (postfix rest ++ ((marked place, None) ∷ [] ++ marks))
    ∙ stacked-postfix rest (first ∷ stack) ((marked place, None) ∷ [] ++ marks)

pub newest-postfix : (form : Form) → newest (stacked [] (postfix form)) ≡ form
newest-postfix (Atom place bytes) = refl
newest-postfix (Symbol place name) = refl
newest-postfix (Pair place first rest) = ap newest (stacked-postfix first [] (postfix rest ++ (marked place, None) ∷ []) ∙ stacked-postfix rest (first ∷ []) ((marked place, None) ∷ []))

abbrev pub form_code : Coded Form
form_code = code_by (List Mark) (coded_list (coded× (coded× coded_ℕ coded_ℕ) (coded_option (coded× coded_bool (coded_list coded_ℕ))))) postfix (λ marks. newest (stacked [] marks)) newest-postfix
