use Rattle.std.proofs.Common.{◌++◌, map, ap, ◌∙◌, arith}
use Rattle.std.specs.List.{flat_map}
use Rattle.std.proofs.lemmas.List.{take_all}
use Rattle.coin_facts.specs.CoinId.{coin_id}
use Rattle.cond_spec.specs.Acts.{coin_made}
use Rattle.block_judge.specs.IdSets.{ids_made}
use Rattle.block_judge.proofs.FlatLaws.{made_flat}
use Rattle.block_judge.proofs.ids.push_created.Goals as goal

pub returns : goal.returns
returns c =
    let made = c.behind-facts.inside.coin in
    let items = c.as_slice-condition-items.result.now in
    let coin = ap (λ s. s.coin) (c.behind-facts.view_is ∙ c.spend.ensures.value) in
    let conditions = c.as_slice-condition-items.ensures.value ∙ c.conditions.ensures in
    c.loop-condition.invariant
    ∙ ap (λ ids. c.args.ids.now.items ++ ids)
    (ap (flat_map (ids_made made)) (take_all c.loop-condition.condition-index items (omega (arith, c.loop-condition-test.false)))
    ∙ made_flat made items ∙ (λ i. map coin_id (flat_map (coin_made (coin i)) (conditions i))))
