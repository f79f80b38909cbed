use Rattle.std.proofs.Common.{◌≡◌, Ok, sym, ap, ◌∙◌, subst}
use Rattle.std.proofs.lemmas.Result.{err_from_is_err_and}
use Rattle.clvm_tree.specs.Nodes.{tree_at}
use Rattle.singleton_forward.specs.Checks.{conditions_checked}
use Rattle.singleton_forward.specs.Faults.{IsBroken}
use Rattle.singleton_forward.specs.Solutions.{with_last}
use Rattle.singleton_forward.proofs.ShapeLaws.{outline-broken, run-broken-at, run-ok-at, conditions-broken, shape-ok}
use Rattle.singleton_forward.proofs.run.shape.Goals as goal

pub returns-in_err-found-clause-err : goal.returns-in_err-found-clause-err
returns-in_err-found-clause-err c =
    let p = err_from_is_err_and c.from_residual.result c.from_residual.ensures.1 in
    rw (p.1, p.2) (outline-broken c.args.limit c.args.singleton.now c.args.spend.now c.in_err-found.field-0.0 c.in_err-found.ensures.err)

pub returns-in_err-made-clause-err : goal.returns-in_err-made-clause-err
returns-in_err-made-clause-err c =
    let trees = c.outline_of.new.trees in
    let found = c.in_ok-found.found in
    let outline = c.in_ok-found.ensures.ok in
    let p = err_from_is_err_and c.from_residual-in_err-made.result c.from_residual-in_err-made.ensures.1 in
    rw (p.1, p.2)
    (run-broken-at c.args.limit c.args.singleton.now c.args.spend.now (with_last found.proof outline.last) (tree_at trees found.puzzle.0) (tree_at trees found.solution.0)
    c.in_err-made.field-0.0 outline.says outline.puzzle_stands outline.solution_stands c.in_err-made.ensures.err)

pub returns-in_err-check_conditions-clause-err : goal.returns-in_err-check_conditions-clause-err
returns-in_err-check_conditions-clause-err c =
    let trees = c.outline_of.new.trees in
    let spend = c.args.spend.now in
    let found = c.in_ok-found.found in
    let outline = c.in_ok-found.ensures.ok in
    let made = c.in_ok-made.made in
    let fault = c.in_err-check_conditions.field-0.0 in
    let coin : c.spend.inside.coin ≡ spend.coin = ap (λ s. s.coin) c.spend.view_is in
    let ran = run-ok-at c.args.limit spend (tree_at trees found.puzzle.0) (tree_at trees found.solution.0) made outline.puzzle_stands outline.solution_stands c.in_ok-made.ensures.ok in
    let listed = subst (λ list. IsBroken (conditions_checked c.spend.inside.coin list) fault) c.as_slice.ensures.value c.in_err-check_conditions.ensures.err in
    let broken = subst (λ coin. IsBroken (conditions_checked coin made) fault) coin listed in
    let p = err_from_is_err_and c.from_residual-in_err-check_conditions.result c.from_residual-in_err-check_conditions.ensures.1 in
    rw (p.1, p.2) (conditions-broken c.args.limit c.args.singleton.now spend (with_last found.proof outline.last) made fault outline.says ran broken)

pub returns-clause-ok : goal.returns-clause-ok
returns-clause-ok c =
    let trees = c.outline_of.new.trees in
    let spend = c.args.spend.now in
    let found = c.in_ok-found.found in
    let outline = c.in_ok-found.ensures.ok in
    let made = c.in_ok-made.made in
    let coin : c.spend.inside.coin ≡ spend.coin = ap (λ s. s.coin) c.spend.view_is in
    let ran = run-ok-at c.args.limit spend (tree_at trees found.puzzle.0) (tree_at trees found.solution.0) made outline.puzzle_stands outline.solution_stands c.in_ok-made.ensures.ok in
    let listed = subst (λ list. conditions_checked c.spend.inside.coin list ≡ Ok list) c.as_slice.ensures.value c.in_ok-check_conditions.ensures.ok in
    let held = subst (λ coin. conditions_checked coin made ≡ Ok made) coin listed in
    shape-ok c.args.limit c.args.singleton.now spend found.proof outline.last made outline.says ran held ∙ ap Ok (sym c.in_ok-shape_with.ensures)
