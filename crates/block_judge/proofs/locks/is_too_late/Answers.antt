use Rattle.std.proofs.Common.{not, ap, ◌∙◌}
use Rattle.std.specs.List.{list_all, flat_map}
use Rattle.cond_spec.specs.Locks.{to_precede}
use Rattle.judge_spec.specs.Locked.{is_ahead}
use Rattle.block_judge.proofs.FlatLaws.{all_flat}
use Rattle.block_judge.proofs.locks.is_too_late.Goals as goal

pub returns : goal.returns
returns g c =
    let seen = g.C.Coins.seen c.args.coins.now in
    let coin = ap (λ s. s.coin) (c.behind-facts.view_is ∙ c.spend.ensures.value) in
    let conditions = c.as_slice.ensures.value ∙ c.conditions.ensures in
    ap not
    (c.are_ahead.ensures ∙ all_flat (is_ahead seen) (to_precede c.behind-facts.inside.coin) c.as_slice.result.now
    ∙ (λ i. list_all (is_ahead seen) (flat_map (to_precede (coin i)) (conditions i))))
