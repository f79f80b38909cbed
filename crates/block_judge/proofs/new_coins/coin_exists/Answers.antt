use Rattle.std.proofs.Common.{◌++◌, sym, ◌∙◌}
use Rattle.chain_spec.specs.Chain.{is_in_chain}
use Rattle.block_judge.proofs.NewCoinLaws.{ids_by, exists-next, exists-here}
use Rattle.block_judge.proofs.new_coins.coin_exists.Goals as goal

pub loop-place-preserved : goal.loop-place-preserved
loop-place-preserved g c =
    let there = is_in_chain (g.C.Coins.seen c.args.coins.now) in
    let facts = c.index-list-place.result in
    let held = c.loop-place.invariant in
    let asks = c.in_ok-creates_old.ensures held.0 held.1 in (
      held.0 ++ ids_by facts,
      asks.more c.if-branch.false,
      sym (exists-next there held.0 c.args.list.now c.loop-place.place facts c.loop-place-test.true c.index-list-place.is (sym asks.is ∙ c.if-branch.false)) ∙ held.2,
    )

pub returns-then-branch-clause-value : goal.returns-then-branch-clause-value
returns-then-branch-clause-value g c =
    let there = is_in_chain (g.C.Coins.seen c.args.coins.now) in
    let facts = c.index-list-place.result in
    let held = c.loop-place.invariant in
    let asks = c.in_ok-creates_old.ensures held.0 held.1 in
    sym (exists-here there held.0 c.args.list.now c.loop-place.place facts c.loop-place-test.true c.index-list-place.is (sym asks.is ∙ c.if-branch.true)) ∙ held.2
