-- What the program's heads and operators stand for, and what an operator gives for the list of its operands' values.
-- This project's own.
use Rattle.std.specs.Prelude.{ℕ, Bool, false, is_some, List, Option, Some, None, option_map, option_and_then, codes}
use Rattle.lisp_read.specs.FormLists.{is_long}
use Rattle.lisp_spec.specs.Forms.{Form, Place, is_pair}
use Rattle.lisp_spec.specs.Forms as form
use Rattle.lisp_spec.specs.MacroBodies as body
use Rattle.lisp_spec.specs.MacroBodies.{FormOperator, form_operator, BodyHead, chosen, flag, is_same}
use Rattle.lisp_macro.specs.Values.{first_part, rest_part}
use Rattle.lisp_macro.specs.declared.operators.Operator.{Operator}
use Rattle.lisp_macro.specs.declared.operators.Operator.TheVariants.{First, Rest, Pair, IsPair, Choice, Same, List as Lists}
use Rattle.lisp_macro.specs.declared.operators.Head.{Head}
use Rattle.lisp_macro.specs.declared.operators.Head.TheVariants.{Quotation, TemplateOf, Branches, Operation, NoHead}

abbrev pub row_of : Operator → FormOperator
row_of First = form_operator (codes "f") (Some 1) body.first_of_form
row_of Rest = form_operator (codes "r") (Some 1) body.rest_of_form
row_of Pair = form_operator (codes "c") (Some 2) body.pair_of_forms
row_of IsPair = form_operator (codes "l") (Some 1) body.pair_flag
row_of Choice = form_operator (codes "i") (Some 3) body.choice_of_forms
row_of Same = form_operator (codes "=") (Some 2) body.same_flag
row_of Lists = form_operator (codes "list") None body.list_of_forms

abbrev pub head_of : Head → BodyHead
head_of Quotation = body.Quotation
head_of TemplateOf = body.TemplateOf
head_of Branches = body.Branches
head_of (Operation operator) = body.Operation (row_of operator)
head_of NoHead = body.NoHead

-- No body has a head that isn't a symbol.
abbrev pub head_at : Form → BodyHead
head_at (form.Atom place bytes) = body.NoHead
head_at (form.Symbol place name) = body.body_head name
head_at (form.Pair place first rest) = body.NoHead

-- whether there are operands, as many as are taken
abbrev pub suits : Option ℕ → Option (List Form) → Bool
suits None operands = is_some operands
suits (Some count) operands = is_long count operands

-- ---- operators on the list of their operands' values

abbrev pub second_part : Form → Option Form
second_part list = option_and_then first_part (rest_part list)

abbrev pub list_choice : Form → Option Form
list_choice list =
    option_and_then (λ condition. option_and_then (λ behind. option_and_then (λ second. option_map (λ third. chosen condition second third) (second_part behind)) (first_part behind)) (rest_part list)) (first_part list)

abbrev pub list_applied : Operator → Place → Form → Option Form
list_applied First place list = option_and_then first_part (first_part list)
list_applied Rest place list = option_and_then rest_part (first_part list)
list_applied Pair place list = option_and_then (λ first. option_map (λ rest. form.Pair place first rest) (second_part list)) (first_part list)
list_applied IsPair place list = option_map (λ f. flag place (is_pair f)) (first_part list)
list_applied Choice place list = list_choice list
list_applied Same place list = option_and_then (λ first. option_map (λ second. flag place (is_same first second)) (second_part list)) (first_part list)
list_applied Lists place list = Some list
