-- What may stand next in a list, by how far it is read. This project's own.
use Rattle.std.specs.Prelude.{Bool, true, false, List, [], ◌∷◌, ◌++◌, Option, Some, None}
use Rattle.open_lists.specs.declared.list.Reach.{Reach}
use Rattle.open_lists.specs.declared.list.Reach.TheVariants.{Elements, Dot, Last}

abbrev pub is_begun : {F : Type 0} → List F → Bool
is_begun [] = false
is_begun (form ∷ forms) = true

-- A form may stand there, a dot, or the list's end.
abbrev pub takes_form : {F P : Type 0} → Reach F P → Bool
takes_form Elements = true
takes_form (Dot dot) = true
takes_form (Last dot form) = false

abbrev pub takes_dot : {F P : Type 0} → List F → Reach F P → Bool
takes_dot forms Elements = is_begun forms
takes_dot forms (Dot dot) = false
takes_dot forms (Last dot form) = false

abbrev pub takes_end : {F P : Type 0} → Reach F P → Bool
takes_end Elements = true
takes_end (Dot dot) = false
takes_end (Last dot form) = true

-- the list's dot, if it stands behind one
abbrev pub dot_of : {F P : Type 0} → Reach F P → Option P
dot_of Elements = None
dot_of (Dot dot) = Some dot
dot_of (Last dot form) = Some dot

-- the elements with a form behind them, and how far the list is then read
abbrev pub forms_with : {F P : Type 0} → List F → Reach F P → F → List F
forms_with forms Elements form = forms ++ form ∷ []
forms_with forms (Dot dot) form = forms
forms_with forms (Last dot last) form = forms

abbrev pub reach_with : {F P : Type 0} → Reach F P → F → Reach F P
reach_with Elements form = Elements
reach_with (Dot dot) form = Last dot form
reach_with (Last dot last) form = Last dot last
