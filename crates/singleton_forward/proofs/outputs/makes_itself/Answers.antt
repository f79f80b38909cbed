use Rattle.singleton_forward.proofs.OutputLaws.{made-once, made-not_once}
use Rattle.singleton_forward.proofs.outputs.makes_itself.Goals as goal

pub returns-then-odd_count-eq1 : goal.returns-then-odd_count-eq1
returns-then-odd_count-eq1 c =
    made-once c.args.coin.now c.args.conditions.now c.odd_count.result c.makes_again_in.result c.odd_count.ensures c.if-odd_count-eq1.true c.makes_again_in.ensures

pub returns-else-odd_count-eq1 : goal.returns-else-odd_count-eq1
returns-else-odd_count-eq1 c = made-not_once c.args.coin.now c.args.conditions.now c.odd_count.result c.odd_count.ensures c.if-odd_count-eq1.false
