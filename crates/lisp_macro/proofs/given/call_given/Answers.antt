use Rattle.std.proofs.Common.{◌≡◌, ◌-◌, suc, subst, arith}
use Rattle.lisp_read.specs.Views.{form_of}
use Rattle.lisp_spec.specs.MacroBodies.{BodyValue, body_value}
use Rattle.lisp_macro.specs.Defined.{macro_with}
use Rattle.lisp_macro.specs.Faults.{IsMacroFault}
use Rattle.lisp_macro.proofs.CallLaws.{call_is}
use Rattle.lisp_macro.proofs.given.call_given.Goals as goal

pub returns-clause-fault : goal.returns-clause-fault
returns-clause-fault c =
    let left = c.args.turns.now - 1 in
    let turn : c.args.turns.now ≡ suc left = omega (arith, c.if-turns-eq0.false) in
    let value : BodyValue = body_value (record { params = form_of c.args.definition.now.params; operands = c.in_ok-operands.operands.now; place = c.args.place }) (form_of c.args.definition.now.body) left in
    λ name.
    subst (λ e. IsMacroFault e c.evaluate_body.new.turns c.fault_at.result)
    (call_is (macro_with name c.args.definition.now) (form_of c.args.operands.now) c.in_ok-operands.operands.now c.args.place c.args.turns.now left turn c.in_ok-operands.ensures)
    (c.fault_at.ensures value c.evaluate_body.new.turns c.in-Err.ensures.stops)
