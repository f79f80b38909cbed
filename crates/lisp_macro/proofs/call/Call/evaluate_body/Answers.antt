use Rattle.std.proofs.Common.{◌≡◌, ap, sym, subst, ◌∙◌, arith}
use Rattle.std.proofs.lemmas.Result.{err_from_is_err_and}
use Rattle.lisp_read.specs.Views.{form_of}
use Rattle.lisp_spec.specs.MacroBodies.{template_value, body_value}
use Rattle.lisp_macro.specs.Calls.{call_of}
use Rattle.lisp_macro.specs.Evaluations.{operand_list, frame_goes, worked_off, next_value, frames_left, next_left, IsStop}
use Rattle.lisp_macro.proofs.BodyLaws.{left_push, popped_same, stop_is}
use Rattle.lisp_macro.proofs.call.Call.evaluate_body.Goals as goal

pub returns-in_err-next-in-Evaluates-clause-stops : goal.returns-in_err-next-in-Evaluates-clause-stops
returns-in_err-next-in-Evaluates-clause-stops c =
    let call = call_of c.args.self.now in
    let all = body_value call (form_of c.args.body.now) c.args.turns.now in
    let p = err_from_is_err_and c.from_residual.result c.from_residual.ensures.1 in
    let same = ap (λ n. worked_off call c.frames.frames.items (next_value call n c.frames.turns)) (sym c.in-Evaluates.is) ∙ c.frames.invariant.0 in
    rw p.1 (subst (IsStop all c.evaluate.new.turns) (sym p.2) (stop_is call c.frames.frames.items (body_value call (form_of c.in-Evaluates.form.now) c.frames.turns) all c.evaluate.new.turns c.in_err-next-in-Evaluates.field-0.0 same c.in_err-next-in-Evaluates.ensures.steps))

pub returns-in_err-next-in-Fills-clause-stops : goal.returns-in_err-next-in-Fills-clause-stops
returns-in_err-next-in-Fills-clause-stops c =
    let call = call_of c.args.self.now in
    let all = body_value call (form_of c.args.body.now) c.args.turns.now in
    let p = err_from_is_err_and c.from_residual-in_err-next-in-Fills.result c.from_residual-in_err-next-in-Fills.ensures.1 in
    let same = ap (λ n. worked_off call c.frames.frames.items (next_value call n c.frames.turns)) (sym c.in-Fills.is) ∙ c.frames.invariant.0 in
    rw p.1 (subst (IsStop all c.frames.turns) (sym p.2) (stop_is call c.frames.frames.items (template_value (body_value call) (form_of c.in-Fills.form.now) c.frames.turns) all c.frames.turns c.in_err-next-in-Fills.field-0.0 same c.in_err-next-in-Fills.ensures))

pub returns-in_err-next-in-Lists-clause-stops : goal.returns-in_err-next-in-Lists-clause-stops
returns-in_err-next-in-Lists-clause-stops c =
    let call = call_of c.args.self.now in
    let all = body_value call (form_of c.args.body.now) c.args.turns.now in
    let p = err_from_is_err_and c.from_residual-in_err-next-in-Lists.result c.from_residual-in_err-next-in-Lists.ensures.1 in
    let same = ap (λ n. worked_off call c.frames.frames.items (next_value call n c.frames.turns)) (sym c.in-Lists.is) ∙ c.frames.invariant.0 in
    rw p.1 (subst (IsStop all c.frames.turns) (sym p.2) (stop_is call c.frames.frames.items (operand_list (body_value call) call.place (form_of c.in-Lists.form.now) c.frames.turns) all c.frames.turns c.in_err-next-in-Lists.field-0.0 same c.in_err-next-in-Lists.ensures))

pub returns-in_err-next-in-Some-clause-stops : goal.returns-in_err-next-in-Some-clause-stops
returns-in_err-next-in-Some-clause-stops c =
    let call = call_of c.args.self.now in
    let all = body_value call (form_of c.args.body.now) c.args.turns.now in
    let p = err_from_is_err_and c.from_residual-in_err-next-in-Some.result c.from_residual-in_err-next-in-Some.ensures.1 in
    let same = popped_same call c.frames.frames.items c.pop.new.self.items c.in-Some.frame c.frames.next c.in-Gives.value c.frames.turns all c.in-Some.ensures.items c.in-Gives.is c.frames.invariant.0 in
    rw p.1 (subst (IsStop all c.frames.turns) (sym p.2) (stop_is call c.pop.new.self.items (frame_goes call c.in-Some.frame c.in-Gives.value.now c.frames.turns) all c.frames.turns c.in_err-next-in-Some.field-0.0 same c.in_err-next-in-Some.ensures))

pub frames-smaller : goal.frames-smaller
frames-smaller c =
    omega (arith, c.in_ok-next-in-Some.ensures.less, ap frames_left c.in-Some.ensures.items, left_push c.pop.new.self.items c.in-Some.frame, ap next_left c.in-Gives.is)

pub frames-preserved : goal.frames-preserved
frames-preserved c =
    let call = call_of c.args.self.now in
    let all = body_value call (form_of c.args.body.now) c.args.turns.now in (
      c.in_ok-next-in-Some.ensures.same
          ∙ popped_same call c.frames.frames.items c.pop.new.self.items c.in-Some.frame c.frames.next c.in-Gives.value c.frames.turns all c.in-Some.ensures.items c.in-Gives.is c.frames.invariant.0,
      c.frames.invariant.1,
    )
