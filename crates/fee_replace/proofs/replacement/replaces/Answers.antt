use Rattle.std.proofs.Common.{◌≡◌, ◌+◌, nat_le, ap, ◌∙◌}
use Rattle.std.specs.Prelude.{option_map}
use Rattle.std.specs.Option.{option_or}
use Rattle.judge_spec.specs.declared.rule.Rule.TheVariants.{LeavesCoins, LowerRate, SmallRaise}
use Rattle.pool_spec.specs.declared.limits.TheConstants.{LEAST_RAISE}
use Rattle.pool_spec.specs.Prices.{is_higher_rate, fees_of, costs_of}
use Rattle.pool_spec.specs.Replacement.{replaced_by, left_coins, lower_rate, small_raise, first_conflict_unless}
use Rattle.fee_replace.specs.Told.{numbered}
use Rattle.fee_replace.proofs.ReplacedLaws.{first-unless, first-told}
use Rattle.fee_replace.proofs.replacement.replaces.Goals as goal

pub returns : goal.returns
returns c =
    let new = c.args.new.now in
    let items = c.args.items.now in
    let replaced = c.rate_of_replaced-replaced in
    let rate : c.is_higher_than-is_higher.result ≡ is_higher_rate new.fee new.cost (fees_of (replaced_by new items)) (costs_of (replaced_by new items)) =
    c.is_higher_than-is_higher.ensures
    ∙ (λ i. is_higher_rate (c.fee.ensures.value i) (c.cost.ensures.value i) (replaced.ensures.fee i) (replaced.ensures.cost i)) in
    let second : c.first_unless.result ≡ lower_rate new items =
    c.first_unless.ensures ∙ first-unless new items c.args.conflicts.now c.requires.places c.is_higher_than-is_higher.result
    ∙ ap (λ holds. first_conflict_unless holds new items) rate in
    let third : c.first_unless-2.result ≡ small_raise new items =
    c.first_unless-2.ensures ∙ first-unless new items c.args.conflicts.now c.requires.places (nat_le (replaced.result.fee + LEAST_RAISE) c.fee.result)
    ∙ (λ i. first_conflict_unless (nat_le (replaced.ensures.fee i + LEAST_RAISE) (c.fee.ensures.value i)) new items) in
    c.or-2.ensures
    ∙ (λ i. option_or (c.or.ensures i) (c.broken_at-3.ensures i))
    ∙ (λ i. option_or (option_or (c.broken_at.ensures i) (c.broken_at-2.ensures i)) (option_map (numbered SmallRaise) c.first_unless-2.result))
    ∙ (λ i. option_or (option_or (option_map (numbered LeavesCoins) (c.left_coins.ensures i)) (option_map (numbered LowerRate) (second i))) (option_map (numbered SmallRaise) (third i)))
    ∙ first-told (left_coins new items) (lower_rate new items) (small_raise new items)
