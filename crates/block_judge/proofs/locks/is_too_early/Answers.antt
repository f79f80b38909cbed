use Rattle.std.proofs.Common.{not, ap, ◌∙◌}
use Rattle.std.specs.List.{list_all, flat_map}
use Rattle.cond_spec.specs.Locks.{to_reach}
use Rattle.judge_spec.specs.Locked.{is_reached}
use Rattle.block_judge.proofs.FlatLaws.{all_flat}
use Rattle.block_judge.proofs.locks.is_too_early.Goals as goal

pub returns : goal.returns
returns g c =
    let seen = g.C.Coins.seen c.args.coins.now in
    let coin = ap (λ s. s.coin) (c.behind-facts.view_is ∙ c.spend.ensures.value) in
    let conditions = c.as_slice.ensures.value ∙ c.conditions.ensures in
    ap not
    (c.are_reached.ensures ∙ all_flat (is_reached seen) (to_reach c.behind-facts.inside.coin) c.as_slice.result.now
    ∙ (λ i. list_all (is_reached seen) (flat_map (to_reach (coin i)) (conditions i))))
