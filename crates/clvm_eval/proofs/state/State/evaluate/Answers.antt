use Rattle.std.proofs.Common.{length, refl, sym, subst}
use Rattle.std.proofs.lemmas.Result.{err_from_is_err_and}
use Rattle.clvm_spec.specs.Evaluation.{evaluation}
use Rattle.clvm_tree.specs.Nodes.{tree_at}
use Rattle.clvm_eval.specs.Runs.{IsRunFault}
use Rattle.clvm_eval.specs.Steps.{outcome_with, goes_out}
use Rattle.clvm_eval.proofs.FormLaws.{fault_of_all}
use Rattle.clvm_eval.proofs.state.State.evaluate.Goals as goal

pub returns-in_err-value : goal.returns-in_err-value
returns-in_err-value c =
    let trees = c.args.trees.now in
    let before = c.args.self.now in
    let depth = length before.frames.items in
    let whole = outcome_with trees before c.args.program.0 c.args.env.0 in
    let part = evaluation (tree_at trees c.args.program.0) (tree_at trees c.args.env.0) depth before.left in
    let p = err_from_is_err_and c.from_residual.result c.from_residual.ensures.1 in
    let all = fault_of_all trees part whole (goes_out trees before) c.in_err-value.field-0.0 refl (c.in_err-value.ensures depth) in
    rw p.1 (subst (IsRunFault trees whole) (sym p.2) all)
