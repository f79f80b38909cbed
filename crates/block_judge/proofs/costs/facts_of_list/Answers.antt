use Rattle.std.proofs.Common.{◌≡◌, ◌+◌, ◌∷◌, [], ◌++◌, length, drop, ap, sym, ◌∙◌, arith, length-append}
use Rattle.judge_spec.specs.declared.rule.Rule.TheVariants.{TooCostly}
use Rattle.judge_spec.specs.Rules.{number_of}
use Rattle.judge_spec.specs.Judgement.{Broken, cost_of, with_facts}
use Rattle.block_judge.specs.Verdicts.{terms_within}
use Rattle.block_judge.proofs.CostLaws.{goes-on, facts-go-on, facts-end}
use Rattle.block_judge.proofs.costs.facts_of_list.Goals as goal

pub returns-in-None-clause-err : goal.returns-in-None-clause-err
returns-in-None-clause-err c = λ go.
    let held = c.loop-place.invariant in
    sym (held.2 go)
    ∙ facts-end c.args.limit c.args.peak.now c.loop-place.list c.args.spends.now c.loop-place.place c.index-spends-place.result c.loop-place-test.true c.index-spends-place.is
    c.in-Ok.facts c.loop-place.cost c.in-Ok.ensures.ok held.1 c.in-None.ensures go
    ∙ ap (Broken (number_of TooCostly)) held.0 ∙ (λ i. Broken (sym c.new.ensures i).rule (sym c.new.ensures i).place)

pub loop-place-preserved : goal.loop-place-preserved
loop-place-preserved c =
    let held = c.loop-place.invariant in
    let terms = terms_within c.args.limit in
    let facts = c.in-Ok.facts in
    let pushed : c.push.new.self ≡ c.loop-place.list ++ facts ∷ [] = c.in_ok-push.ensures.ok in
    let goes = goes-on c.args.limit c.args.peak.now c.loop-place.cost c.loop-place.list facts held.1 c.in-Some.grown c.in-Some.ensures in
    let longer = length-append c.loop-place.list (facts ∷ []) in
    let count : length (c.loop-place.list ++ facts ∷ []) ≡ c.loop-place.place + 1 = let before = held.0 in omega arith in (
      ap length pushed ∙ count,
      goes.0 ∙ ap (cost_of terms c.args.peak.now) (sym pushed),
      λ go.
          ap (λ list. with_facts terms c.args.peak.now list (drop (c.loop-place.place + 1) c.args.spends.now) go) pushed
          ∙ sym (facts-go-on c.args.limit c.args.peak.now c.loop-place.list c.args.spends.now c.loop-place.place c.index-spends-place.result c.loop-place-test.true c.index-spends-place.is
          facts c.loop-place.cost c.in-Some.grown c.in-Ok.ensures.ok held.1 c.in-Some.ensures go)
          ∙ held.2 go,
    )
