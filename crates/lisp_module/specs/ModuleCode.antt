-- Modules as tuples: how a module is stored where a type of the program is seen as one. This project's own.
use Rattle.std.specs.Prelude.{ℕ, List, refl}
use Rattle.std.specs.Coded.{Coded, code_by, coded×, coded_ℕ, coded_list}
use Rattle.clvm_spec.specs.Tree.{Tree}
use Rattle.clvm_spec.specs.TreeCode.{tree_code}
use Rattle.lisp_read.specs.Forms.{Form}
use Rattle.lisp_read.specs.FormCode.{form_code}
use Rattle.lisp_spec.specs.Modules.{Constant, Definition, Module}

abbrev pub bytes_code : Coded (List ℕ)
bytes_code = coded_list coded_ℕ

abbrev pub constant_code : Coded Constant
constant_code = code_by (List ℕ × Tree) (coded× bytes_code tree_code) (λ c. (c.name, c.value)) (λ p. record { name = p.0; value = p.1 }) (λ _. refl)

abbrev pub definition_code : Coded Definition
definition_code =
    code_by (List ℕ × (Form × Form)) (coded× bytes_code (coded× form_code form_code)) (λ d. (d.name, (d.params, d.body)))
    (λ p. record { name = p.0; params = p.1.0; body = p.1.1 }) (λ _. refl)

abbrev pub module_code : Coded Module
module_code =
    code_by ((Form × Form) × (List Constant × (List Definition × List Definition)))
    (coded× (coded× form_code form_code) (coded× (coded_list constant_code) (coded× (coded_list definition_code) (coded_list definition_code))))
    (λ m. ((m.params, m.body), (m.constants, (m.functions, m.inlines))))
    (λ p. record { params = p.0.0; constants = p.1.0; functions = p.1.1.0; inlines = p.1.1.1; body = p.0.1 }) (λ _. refl)
