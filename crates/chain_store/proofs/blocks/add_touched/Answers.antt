use Rattle.std.proofs.Common.{◌≡◌, ◌++◌, map, take, ap, ◌∙◌, append_assoc, take_all}
use Rattle.coin_facts.specs.CoinId.{coin_id}
use Rattle.chain_store.proofs.blocks.add_touched.Goals as goal

pub returns : goal.returns
returns c =
    let items = c.deref-coin-items.result.now in
    let spent : c.deref.result.now ≡ c.args.block.now.spent = c.deref.ensures.value ∙ ap (λ block. block.spent) c.block.view_is in
    let created : items ≡ c.args.block.now.created = c.deref-coin-items.ensures.value ∙ ap (λ block. block.created) c.block.view_is in
    c.loop-coin.invariant
    ∙ (λ j. c.in_ok-extend_from_slice.ensures.items j ++ map coin_id (take_all c.loop-coin.coin-index items c.loop-coin-test.false j))
    ∙ append_assoc c.args.ids.now.items c.deref.result.now (map coin_id items)
    ∙ (λ j. c.args.ids.now.items ++ (spent j ++ map coin_id (created j)))
