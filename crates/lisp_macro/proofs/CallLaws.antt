-- A call gives what its body gives, within the limits.
use Rattle.std.proofs.Common.{◌≡◌, ℕ, suc, ap, sym, ◌∙◌}
use Rattle.lisp_spec.specs.Forms.{Form, Place}
use Rattle.lisp_spec.specs.Macros.{Macro}
use Rattle.lisp_spec.specs.MacroBodies.{body_value}
use Rattle.lisp_spec.specs.Expansion.{limited, call_given}

pub call_is : (macro : Macro) (operands value : Form) (place : Place) (turns left : ℕ) → turns ≡ suc left → value ≡ operands →
    limited place (body_value (record { params = macro.params; operands = value; place = place }) macro.body left) ≡ call_given macro operands place turns
call_is macro operands value place turns left turn is =
    ap (λ o. limited place (body_value (record { params = macro.params; operands = o; place = place }) macro.body left)) is ∙ sym (ap (call_given macro operands place) turn)
