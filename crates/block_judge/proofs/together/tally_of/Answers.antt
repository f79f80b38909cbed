use Rattle.std.proofs.Common.{◌≡◌, ◌∷◌, [], ◌++◌, map, take, ap, ◌∙◌, subst, arith}
use Rattle.std.proofs.lemmas.List.{take_all}
use Rattle.cond_spec.specs.Acts.{Acts}
use Rattle.cond_rules.specs.Tallies.{IsTallyOf}
use Rattle.judge_spec.specs.Facts.{acts_of}
use Rattle.block_judge.proofs.TogetherLaws.{grown-acts}
use Rattle.block_judge.proofs.together.tally_of.Goals as goal

pub loop-place-preserved : goal.loop-place-preserved
loop-place-preserved c =
    let list = c.args.list.now in
    let place = c.loop-place.place in
    let facts = c.index-list-place.result in
    let held = c.loop-place.invariant in
    let coin = ap (λ s. s.coin) (c.behind-facts.view_is ∙ c.spend.ensures.value) in
    let added : Acts = record { coin = c.behind-facts.inside.coin; conditions = c.conditions.result.now } in
    let same : added ≡ acts_of facts = λ i. record { coin = coin i; conditions = c.conditions.ensures i } in (
      subst (IsTallyOf c.add.new.self) (ap (λ acts. map acts_of (take place list) ++ acts ∷ []) same ∙ grown-acts list place facts c.loop-place-test.true c.index-list-place.is)
          (c.in_ok-add.ensures.ok (map acts_of (take place list)) held.0),
      c.in_ok-add.ensures.count,
    )

pub returns : goal.returns
returns c =
    subst (λ list. IsTallyOf c.loop-place.tally (map acts_of list)) (take_all c.loop-place.place c.args.list.now (omega (arith, c.loop-place-test.false))) c.loop-place.invariant.0
