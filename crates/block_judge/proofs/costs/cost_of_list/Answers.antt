use Rattle.std.proofs.Common.{sym, ◌∙◌}
use Rattle.block_judge.proofs.CostLaws.{costs-go-on, costs-end}
use Rattle.block_judge.proofs.costs.cost_of_list.Goals as goal

pub loop-place-preserved : goal.loop-place-preserved
loop-place-preserved c =
    let held = c.loop-place.invariant in
    let goes = costs-go-on c.args.limit c.args.peak.now c.args.list.now c.loop-place.place c.index-list-place.result c.loop-place-test.true c.index-list-place.is c.loop-place.cost c.in-Some.grown held.0 c.in-Some.ensures in
    (goes.0, λ verdict. sym (goes.1 verdict) ∙ held.1 verdict)

pub returns-in-None-clause-err : goal.returns-in-None-clause-err
returns-in-None-clause-err c = λ verdict.
    let held = c.loop-place.invariant in
    sym (held.1 verdict)
    ∙ costs-end c.args.limit c.args.peak.now c.args.list.now c.loop-place.place c.index-list-place.result c.loop-place-test.true c.index-list-place.is c.loop-place.cost verdict held.0 c.in-None.ensures
