use Rattle.std.proofs.Common.{◌≡◌, ◌-◌, suc, ap, sym, subst, ◌∙◌, arith}
use Rattle.lisp_read.specs.Forms.{Atom, Symbol}
use Rattle.lisp_read.specs.Views.{form_of}
use Rattle.lisp_spec.specs.MacroBodies.{Gives, unless_astray, body_value}
use Rattle.std.proofs.lemmas.Result.{err_from_is_err_and}
use Rattle.lisp_macro.specs.Calls.{call_of}
use Rattle.lisp_macro.specs.Evaluations.{IsStop}
use Rattle.lisp_macro.proofs.BodyLaws.{whole, spent, leaf_evaluated, symbol_astray, headed_evaluated}
use Rattle.lisp_macro.proofs.call.Call.evaluate.Goals as goal

pub returns-then-turns-eq0-clause-steps : goal.returns-then-turns-eq0-clause-steps
returns-then-turns-eq0-clause-steps c = spent (call_of c.args.self.now) (form_of c.args.expression.now) c.args.turns.now c.if-turns-eq0.true

pub returns-in_ok-atom-in-Atom-clause-steps : goal.returns-in_ok-atom-in-Atom-clause-steps
returns-in_ok-atom-in-Atom-clause-steps c =
    let turn : c.args.turns.now ≡ suc (c.args.turns.now - 1) = omega (arith, c.if-turns-eq0.false) in
    leaf_evaluated (call_of c.args.self.now) (form_of c.args.expression.now) c.args.turns.now (c.args.turns.now - 1) turn c.args.frames.now.items (Atom c.in-Atom.place c.in-Atom.bytes) c.in_ok-atom-in-Atom.atom
    (ap form_of c.in-Atom.is) (omega arith) (ap (λ form. Gives form (c.args.turns.now - 1)) (sym (c.in_ok-atom-in-Atom.ensures ∙ ap (Atom c.in-Atom.place) c.as_slice.ensures)))

pub returns-in_err-value-in-Symbol-clause-steps : goal.returns-in_err-value-in-Symbol-clause-steps
returns-in_err-value-in-Symbol-clause-steps c =
    let turn : c.args.turns.now ≡ suc (c.args.turns.now - 1) = omega (arith, c.if-turns-eq0.false) in
    let call = call_of c.args.self.now in
    let name = c.as_slice-in-Symbol.result.now in
    let is : form_of c.args.expression.now ≡ Symbol c.in-Symbol.place name = ap form_of c.in-Symbol.is ∙ ap (Symbol c.in-Symbol.place) (sym c.as_slice-in-Symbol.ensures) in
    let stop = c.in_err-value-in-Symbol.field-0.0 in
    let p = err_from_is_err_and c.from_residual-in_err-value-in-Symbol.result c.from_residual-in_err-value-in-Symbol.ensures.1 in
    let all = symbol_astray call (form_of c.args.expression.now) c.args.turns.now (c.args.turns.now - 1) turn c.in-Symbol.place name stop is c.in_err-value-in-Symbol.ensures in
    rw p.1 (subst (IsStop (body_value call (form_of c.args.expression.now) c.args.turns.now) (c.args.turns.now - 1)) (sym p.2) all)

pub returns-in_ok-value-in-Symbol-clause-steps : goal.returns-in_ok-value-in-Symbol-clause-steps
returns-in_ok-value-in-Symbol-clause-steps c =
    let turn : c.args.turns.now ≡ suc (c.args.turns.now - 1) = omega (arith, c.if-turns-eq0.false) in
    let name = c.as_slice-in-Symbol.result.now in
    let is : form_of c.args.expression.now ≡ Symbol c.in-Symbol.place name = ap form_of c.in-Symbol.is ∙ ap (Symbol c.in-Symbol.place) (sym c.as_slice-in-Symbol.ensures) in
    leaf_evaluated (call_of c.args.self.now) (form_of c.args.expression.now) c.args.turns.now (c.args.turns.now - 1) turn c.args.frames.now.items (Symbol c.in-Symbol.place name) c.in_ok-value-in-Symbol.value
    is (omega arith) (ap (λ found. unless_astray found (c.args.turns.now - 1)) c.in_ok-value-in-Symbol.ensures)

pub returns-in-Pair-clause-steps : goal.returns-in-Pair-clause-steps
returns-in-Pair-clause-steps c =
    let turn : c.args.turns.now ≡ suc (c.args.turns.now - 1) = omega (arith, c.if-turns-eq0.false) in
    headed_evaluated (call_of c.args.self.now) (form_of c.args.expression.now) c.args.turns.now (c.args.turns.now - 1) turn c.args.frames.now.items c.begin_headed.new.frames.items c.in-Pair.field-0 (form_of c.get.result.now) (form_of c.get-in-Pair.result.now) c.head_at.result c.begin_headed.result
    (whole _ _ _ _ _ _ (ap form_of c.in-Pair.is) c.get.ensures c.get-in-Pair.ensures) c.head_at.ensures c.begin_headed.ensures
