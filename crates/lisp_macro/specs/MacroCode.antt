-- Macros as lists of numbers: how they are stored where a type of the program is seen as macros. This project's own.
use Rattle.std.specs.Prelude.{ℕ, List, refl}
use Rattle.std.specs.Coded.{Coded, code_by, coded_list, coded_ℕ, coded×}
use Rattle.lisp_read.specs.FormCode.{form_code}
use Rattle.lisp_spec.specs.Forms.{Form}
use Rattle.lisp_spec.specs.Macros.{Macro}

abbrev pub macro_code : Coded Macro
macro_code =
    code_by (List ℕ × (Form × Form)) (coded× (coded_list coded_ℕ) (coded× form_code form_code))
    (λ m. (m.name, (m.params, m.body))) (λ p. record { name = p.0; params = p.1.0; body = p.1.1 }) (λ _. refl)

abbrev pub macro_list_code : Coded (List Macro)
macro_list_code = coded_list macro_code
