-- The first rule that is broken, by what a tally keeps. Source: this project's own; it is proved that it is the first by coins and
-- conditions.
use Rattle.std.specs.Prelude.{ℕ, nat_lt, Option, None}
use Rattle.coin_facts.specs.Steps.{when}
use Rattle.judge_spec.specs.declared.rule.Rule.TheVariants.{UnmadeAnnouncement, AbsentSpend, NotEphemeral, UnevenMessage, LacksReservedFee}
use Rattle.cond_rules.specs.FirstBroken.{broken_or}
use Rattle.cond_rules.specs.Wants.{first_open}
use Rattle.cond_rules.specs.Letters.{first_uneven}
use Rattle.cond_rules.specs.TallySeen.{Tallied}

-- at the number of spends
abbrev pub lacking : Tallied → Option ℕ
lacking tally = when (nat_lt tally.spent tally.claims) tally.count

abbrev pub broken_in : Tallied → Option (ℕ × ℕ)
broken_in tally =
    broken_or UnmadeAnnouncement (first_open tally.announcements) (broken_or AbsentSpend (first_open tally.spends) (broken_or NotEphemeral (first_open tally.creations)
    (broken_or UnevenMessage (first_uneven tally.letters) (broken_or LacksReservedFee (lacking tally) None))))
