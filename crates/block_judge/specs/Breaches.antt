-- The first broken of some rules, on the way to a verdict. Source: this project's own; it is proved that they lead to the
-- judgement.
use Rattle.std.specs.Prelude.{ℕ, ◌==◌, ◌&&◌, List, [], Bool, Option, Some, None, if◌then◌else◌}
use Rattle.chain_spec.specs.Chain.{Ledger}
use Rattle.block_spec.specs.declared.attested.Signed.{Signed}
use Rattle.cond_spec.specs.Acts.{Acts}
use Rattle.cond_spec.specs.ActRules.{unmade_announcement, absent_spend, not_ephemeral, uneven_message, creates_too_much, lacks_reserved_fee}
use Rattle.judge_spec.specs.declared.rule.Rule.{Rule}
use Rattle.judge_spec.specs.declared.rule.Rule.TheVariants as rules
use Rattle.judge_spec.specs.Rules.{number_of}
use Rattle.judge_spec.specs.Facts.{Facts}
use Rattle.judge_spec.specs.Checks.{Scene, first_spend, is_unknown, is_spent_in_chain, has_wrong_birth, is_too_early, is_too_late, is_not_attested, coin_exists, acts_in}
use Rattle.judge_spec.specs.Judgement.{Verdict, Broken}
use Rattle.block_judge.specs.declared.verdict.Breach.{Breach}
use Rattle.block_judge.specs.Verdicts.{terms_within}

abbrev pub broken_or : Rule → Option ℕ → Option Breach → Option Breach
broken_or rule (Some place) behind = Some (record { rule = number_of rule; place = place })
broken_or rule None behind = behind

abbrev pub or_else : Option Breach → Option Breach → Option Breach
or_else (Some breach) behind = Some breach
or_else None behind = behind

abbrev pub verdict_or : Option Breach → Verdict → Verdict
verdict_or (Some breach) verdict = Broken breach.rule breach.place
verdict_or None verdict = verdict

-- what is judged, where the limit isn't looked at any more
abbrev pub scene_on : Ledger → List Facts → List Signed → Scene
scene_on ledger list attested = record { terms = terms_within 0; ledger = ledger; list = list; attested = attested }

-- the same, where what is attested isn't looked at
abbrev pub unsigned_on : Ledger → List Facts → Scene
unsigned_on ledger list = scene_on ledger list []

-- the first broken of the rules on the records of spent coins
abbrev pub breach_of_coins : Scene → Option Breach
breach_of_coins scene =
    broken_or rules.UnknownCoin (first_spend is_unknown scene) (broken_or rules.SpentInChain (first_spend is_spent_in_chain scene)
    (broken_or rules.WrongBirth (first_spend has_wrong_birth scene) (broken_or rules.TooEarly (first_spend is_too_early scene)
    (broken_or rules.TooLate (first_spend is_too_late scene) None))))

-- the first broken of the rules on what spends make and ask of each other
abbrev pub breach_together : List Acts → Option Breach
breach_together list =
    broken_or rules.UnmadeAnnouncement (unmade_announcement list) (broken_or rules.AbsentSpend (absent_spend list)
    (broken_or rules.NotEphemeral (not_ephemeral list) (broken_or rules.UnevenMessage (uneven_message list)
    (broken_or rules.CreatesTooMuch (creates_too_much list) (broken_or rules.LacksReservedFee (lacks_reserved_fee list) None)))))

-- What a tally answers, with the rule on created amounts in its place: a list that breaks it lacks its reserved fees too.
abbrev pub with_creation : Bool → Option (ℕ × ℕ) → Option Breach
with_creation over None = None
with_creation over (Some broken) =
    Some (record { rule = if broken.0 == number_of rules.LacksReservedFee && over then number_of rules.CreatesTooMuch else broken.0; place = broken.1 })

-- the first broken of the rules 11 to 23
abbrev pub breach_of : Scene → Option Breach
breach_of scene =
    or_else (breach_of_coins scene) (or_else (breach_together (acts_in scene))
    (broken_or rules.NotAttested (first_spend is_not_attested scene) (broken_or rules.CoinExists (coin_exists scene) None)))
