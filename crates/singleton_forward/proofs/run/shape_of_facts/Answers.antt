use Rattle.std.proofs.Common.{◌≡◌, Ok, sym, ap, ◌∙◌, subst}
use Rattle.std.proofs.lemmas.Result.{err_from_is_err_and}
use Rattle.judge_spec.specs.Facts.{run_of}
use Rattle.pool_spec.specs.Shape.{where_found, shape_of}
use Rattle.singleton_forward.specs.Checks.{run_checked, conditions_checked, outlined}
use Rattle.singleton_forward.specs.Faults.{IsBroken}
use Rattle.singleton_forward.specs.Shapes.{shape_seen}
use Rattle.singleton_forward.specs.Solutions.{with_last}
use Rattle.singleton_forward.specs.declared.fault.ShapeFault.TheVariants.{Broken}
use Rattle.singleton_forward.proofs.ShapeLaws.{outline-broken, run-broken, conditions-broken, shape-ok}
use Rattle.singleton_forward.proofs.run.shape_of_facts.Goals as goal

pub returns-in_err-found-clause-err : goal.returns-in_err-found-clause-err
returns-in_err-found-clause-err c =
    let fault = c.in_err-found.field-0.0 in
    let p = err_from_is_err_and c.from_residual.result c.from_residual.ensures.1 in
    rw (p.1, p.2)
    (subst (λ spend. IsBroken (shape_of c.args.limit c.args.singleton.now spend) fault) c.spend-spend.ensures.value
    (outline-broken c.args.limit c.args.singleton.now c.spend-spend.result.now fault c.in_err-found.ensures.err))

pub returns-then-not-is_run_within-clause-err : goal.returns-then-not-is_run_within-clause-err
returns-then-not-is_run_within-clause-err c =
    let facts = c.args.facts.now in
    let outline = c.in_ok-found.ensures.ok in
    let solution = with_last c.in_ok-found.found.proof outline.last in
    let says = subst (λ spend. outlined c.args.singleton.now spend ≡ Ok solution) c.spend-spend.ensures.value outline.says in
    run-broken c.args.limit c.args.singleton.now facts.spend solution (Broken 8) says
    (ap (λ read. where_found 8 read Ok) (c.is_run_within.ensures.spent c.if-not-is_run_within.true))

pub returns-in_err-check_conditions-clause-err : goal.returns-in_err-check_conditions-clause-err
returns-in_err-check_conditions-clause-err c =
    let facts = c.args.facts.now in
    let outline = c.in_ok-found.ensures.ok in
    let solution = with_last c.in_ok-found.found.proof outline.last in
    let says = subst (λ spend. outlined c.args.singleton.now spend ≡ Ok solution) c.spend-spend.ensures.value outline.says in
    let fault = c.in_err-check_conditions.field-0.0 in
    let coin : c.spend.inside.coin ≡ facts.spend.coin = ap (λ s. s.coin) (c.spend.view_is ∙ c.spend-spend.ensures.value) in
    let ran : run_checked (run_of c.args.limit facts.spend) ≡ Ok facts.conditions = ap (λ read. where_found 8 read Ok) (c.is_run_within.ensures.kept c.if-not-is_run_within.false) in
    let listed = subst (λ list. IsBroken (conditions_checked c.spend.inside.coin list) fault) (c.as_slice.ensures.value ∙ c.conditions.ensures) c.in_err-check_conditions.ensures.err in
    let broken = subst (λ coin. IsBroken (conditions_checked coin facts.conditions) fault) coin listed in
    let p = err_from_is_err_and c.from_residual-in_err-check_conditions.result c.from_residual-in_err-check_conditions.ensures.1 in
    rw (p.1, p.2) (conditions-broken c.args.limit c.args.singleton.now facts.spend solution facts.conditions fault says ran broken)

pub returns-clause-ok : goal.returns-clause-ok
returns-clause-ok c =
    let facts = c.args.facts.now in
    let outline = c.in_ok-found.ensures.ok in
    let proof = c.in_ok-found.found.proof in
    let says = subst (λ spend. outlined c.args.singleton.now spend ≡ Ok (with_last proof outline.last)) c.spend-spend.ensures.value outline.says in
    let coin : c.spend.inside.coin ≡ facts.spend.coin = ap (λ s. s.coin) (c.spend.view_is ∙ c.spend-spend.ensures.value) in
    let ran : run_checked (run_of c.args.limit facts.spend) ≡ Ok facts.conditions = ap (λ read. where_found 8 read Ok) (c.is_run_within.ensures.kept c.if-not-is_run_within.false) in
    let listed = subst (λ list. conditions_checked c.spend.inside.coin list ≡ Ok list) (c.as_slice.ensures.value ∙ c.conditions.ensures) c.in_ok-check_conditions.ensures.ok in
    let held = subst (λ coin. conditions_checked coin facts.conditions ≡ Ok facts.conditions) coin listed in
    shape-ok c.args.limit c.args.singleton.now facts.spend proof outline.last facts.conditions says ran held
    ∙ ap Ok (ap (λ spend. shape_seen spend proof) (sym c.spend-spend.ensures.value) ∙ sym c.in_ok-shape_with.ensures)
