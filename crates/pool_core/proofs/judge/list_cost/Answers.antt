use Rattle.std.proofs.Common.{sym, ◌∙◌, arith}
use Rattle.pool_spec.specs.FirstJudgement.{Fine}
use Rattle.pool_core.proofs.CostLaws.{goes_on, stops}
use Rattle.pool_core.proofs.judge.list_cost.Goals as goal

pub returns-in-Err-clause-err : goal.returns-in-Err-clause-err
returns-in-Err-clause-err c = λ after.
    sym (c.loop-place.invariant.walked after)
    ∙ stops c.args.limit c.args.spends.now c.loop-place.place c.index-spends-place.result after c.loop-place-test.true c.index-spends-place.is c.loop-place.cost c.in-Err.rule c.loop-place.invariant.is c.in-Err.ensures

pub loop-place-preserved : goal.loop-place-preserved
loop-place-preserved c =
    let step = goes_on c.args.limit c.args.spends.now c.loop-place.place c.index-spends-place.result (Fine 0 0) c.loop-place-test.true c.index-spends-place.is c.loop-place.cost c.in-Ok.grown c.loop-place.invariant.is c.in-Ok.ensures in
    record {
      is = step.0;
      small = let within = step.1 in omega arith;
      walked = λ after.
          sym (goes_on c.args.limit c.args.spends.now c.loop-place.place c.index-spends-place.result after c.loop-place-test.true c.index-spends-place.is c.loop-place.cost c.in-Ok.grown c.loop-place.invariant.is c.in-Ok.ensures).2 ∙ c.loop-place.invariant.walked after;
    }
