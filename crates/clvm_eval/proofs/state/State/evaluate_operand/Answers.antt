use Rattle.std.proofs.Common.{suc, length, refl, sym, ◌∙◌, subst, arith}
use Rattle.std.proofs.lemmas.Result.{err_from_is_err_and}
use Rattle.clvm_spec.specs.Evaluation.{evaluation}
use Rattle.clvm_tree.specs.Nodes.{tree_at}
use Rattle.clvm_eval.specs.declared.state.State.{State}
use Rattle.clvm_eval.specs.declared.state.Step.TheVariants as step
use Rattle.clvm_eval.specs.Runs.{IsRunFault}
use Rattle.clvm_eval.specs.Steps.{outcome_of, outcome_with, IsBegun}
use Rattle.clvm_eval.proofs.FormLaws.{fault_of_all}
use Rattle.clvm_eval.proofs.StateLaws.{without_last, last_program, program_known, operand_same, operand_valued, pushed_state, pushed_same, steps_from, steps_later}
use Rattle.clvm_eval.proofs.state.State.evaluate_operand.Goals as goal

pub begin-requires-clause-program_known : goal.begin-requires-clause-program_known
begin-requires-clause-program_known c =
    let last = last_program c.args.trees.now c.operands.self (without_last c.args.frame c.operands.programs) c.len.result c.index-program.result.now c.operands.invariant.opened c.operands-test.true c.len.ensures c.index-program.ensures in
    program_known c.args.trees.now c.operands.self (without_last c.args.frame c.operands.programs) _ _ c.index-program.result.now last

pub returns-in_err-value : goal.returns-in_err-value
returns-in_err-value c =
    let trees = c.args.trees.now in
    let mid = c.operands.self in
    let frame = without_last c.args.frame c.operands.programs in
    let program = c.index-program.result.now in
    let last = last_program trees mid frame c.len.result program c.operands.invariant.opened c.operands-test.true c.len.ensures c.index-program.ensures in
    let depth = suc (length mid.frames.items) in
    let part = evaluation (tree_at trees program.0) (tree_at trees frame.env.0) depth mid.left in
    let whole = outcome_of trees c.args.self.now (step.Open c.args.frame) in
    let p = err_from_is_err_and c.from_residual.result c.from_residual.ensures.1 in
    let same = operand_same trees mid frame _ _ program last in
    let later = fault_of_all trees part (outcome_of trees mid (step.Open frame)) _ c.in_err-value.field-0.0 same (c.in_err-value.ensures depth) in
    let all = subst (λ o. IsRunFault trees o c.in_err-value.field-0.0) c.operands.invariant.same later in
    rw p.1 (subst (IsRunFault trees whole) (sym p.2) all)

pub operands-preserved : goal.operands-preserved
operands-preserved c =
    let trees = c.args.trees.now in
    let mid = c.operands.self in
    let frame = without_last c.args.frame c.operands.programs in
    let program = c.index-program.result.now in
    let kept = c.operands.invariant in
    let last = last_program trees mid frame c.len.result program kept.opened c.operands-test.true c.len.ensures c.index-program.ensures in
    let valued = subst (IsBegun trees program.0 frame.env.0 mid.left c.begin.new.left) c.in-Value.is c.in_ok-value.ensures in
    let on = operand_valued trees mid frame _ _ program last _ c.in-Value.value valued refl refl in
    record {
      opened = on.sound;
      fewer = omega (arith, kept.fewer);
      room = omega (arith, kept.room, on.room);
      cheaper = omega (arith, kept.cheaper, on.cheaper, c.operands-test.true);
      same = on.same ∙ kept.same;
    }

pub open_form-requires-clause-state : goal.open_form-requires-clause-state
open_form-requires-clause-state c =
    let trees = c.args.trees.now in
    let mid = c.operands.self in
    let frame = without_last c.args.frame c.operands.programs in
    let program = c.index-program.result.now in
    let last = last_program trees mid frame c.len.result program c.operands.invariant.opened c.operands-test.true c.len.ensures c.index-program.ensures in
    let form = subst (IsBegun trees program.0 frame.env.0 mid.left c.begin.new.left) c.in-Form.is c.in_ok-value.ensures in
    pushed_state trees mid frame _ _ program last _ c.in_ok-push-in-Form.ensures.items refl form.unpaid

pub returns-in-Form : goal.returns-in-Form
returns-in-Form c =
    let trees = c.args.trees.now in
    let before = c.args.self.now in
    let mid = c.operands.self in
    let frame = without_last c.args.frame c.operands.programs in
    let program = c.index-program.result.now in
    let kept = c.operands.invariant in
    let last = last_program trees mid frame c.len.result program kept.opened c.operands-test.true c.len.ensures c.index-program.ensures in
    let form = subst (IsBegun trees program.0 frame.env.0 mid.left c.begin.new.left) c.in-Form.is c.in_ok-value.ensures in
    let pushed : State = record { frames = c.push.new.self; operands = mid.operands; left = c.begin.new.left } in
    let same = pushed_same trees mid frame _ _ program last pushed c.in_ok-push-in-Form.ensures.items refl form.unpaid in
    let now = outcome_of trees mid (step.Open frame) in
    let steps = steps_from trees mid pushed c.open_form.new.self now (outcome_with trees pushed program.0 frame.env.0) c.open_form.result form.unpaid same c.open_form.ensures in
    steps_later trees before mid c.open_form.new.self c.args.frame frame (outcome_of trees before (step.Open c.args.frame)) now c.open_form.result kept.fewer kept.room kept.cheaper kept.same steps
