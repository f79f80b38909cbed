use Rattle.std.proofs.Common.{map, ap, ◌∙◌, arith}
use Rattle.std.specs.List.{flat_map}
use Rattle.std.proofs.lemmas.List.{take_all}
use Rattle.coin_facts.specs.CoinId.{coin_id}
use Rattle.cond_spec.specs.Acts.{of_spend, coin_made}
use Rattle.judge_spec.specs.Facts.{acts_of}
use Rattle.block_judge.proofs.FlatLaws.{created_flat}
use Rattle.block_judge.proofs.ids.created_ids.Goals as goal

pub returns : goal.returns
returns c =
    c.loop-facts.invariant
    ∙ ap (flat_map (λ facts. map coin_id (of_spend coin_made (acts_of facts)))) (take_all c.loop-facts.facts-index c.args.list.now (omega (arith, c.loop-facts-test.false)))
    ∙ created_flat c.args.list.now
