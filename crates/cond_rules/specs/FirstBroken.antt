-- The first rule that added spends break, of those on what spends make and ask of each other. Source: Chia documentation of
-- conditions; the numbers and the order are this project's own.
use Rattle.std.specs.Prelude.{ℕ, List, [], ◌∷◌, Option, Some, None}
use Rattle.judge_spec.specs.declared.rule.Rule.{Rule}
use Rattle.judge_spec.specs.declared.rule.Rule.TheVariants.{UnmadeAnnouncement, AbsentSpend, NotEphemeral, UnevenMessage, LacksReservedFee}
use Rattle.judge_spec.specs.Rules.{number_of}
use Rattle.cond_spec.specs.Acts.{Acts}
use Rattle.cond_spec.specs.ActRules.{unmade_announcement, absent_spend, not_ephemeral, uneven_message, lacks_reserved_fee}

-- a rule, and the place where a list breaks it
pub record Check : Type 0 where
  pub rule : Rule
  pub broken_at : List Acts → Option ℕ

abbrev pub checks : List Check
checks =
    record { rule = UnmadeAnnouncement; broken_at = unmade_announcement }
    ∷ record { rule = AbsentSpend; broken_at = absent_spend }
    ∷ record { rule = NotEphemeral; broken_at = not_ephemeral }
    ∷ record { rule = UnevenMessage; broken_at = uneven_message }
    ∷ record { rule = LacksReservedFee; broken_at = lacks_reserved_fee }
    ∷ []

-- the number of a rule with the place, where it is broken, else what comes behind
abbrev pub broken_or : Rule → Option ℕ → Option (ℕ × ℕ) → Option (ℕ × ℕ)
broken_or rule (Some place) behind = Some (number_of rule, place)
broken_or rule None behind = behind

abbrev pub first_of : List Check → List Acts → Option (ℕ × ℕ)
first_of [] list = None
first_of (check ∷ others) list = broken_or check.rule (check.broken_at list) (first_of others list)

abbrev pub first_broken : List Acts → Option (ℕ × ℕ)
first_broken list = first_of checks list
