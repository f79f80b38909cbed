-- The time locks of conditions, and the conditions that look at a coin's record. Source: Chia documentation of conditions.
use Rattle.std.specs.Prelude.{ℤ, List, [], ◌∷◌, Bool, true, false}
use Rattle.coin_facts.specs.declared.hash32.Hash32.{Hash32}
use Rattle.coin_facts.specs.declared.coin.Coin.{Coin}
use Rattle.coin_facts.specs.CoinId.{coin_id}
use Rattle.cond_spec.specs.declared.condition.Condition.{Condition}
use Rattle.cond_spec.specs.declared.condition.Condition.TheVariants.{AssertMyBirthSeconds, AssertMyBirthHeight, AssertSecondsRelative, AssertSecondsAbsolute, AssertHeightRelative, AssertHeightAbsolute, AssertBeforeSecondsRelative, AssertBeforeSecondsAbsolute, AssertBeforeHeightRelative, AssertBeforeHeightAbsolute}

-- what of the peak a lock looks at
pub data Clock : Type 0 where
  Seconds : Clock
  Height : Clock

-- from when it counts: from a coin's record, or from 0
pub data Start : Type 0 where
  Birth : Hash32 → Start
  Zero : Start

pub record Lock : Type 0 where
  pub clock : Clock
  pub start : Start
  pub moment : ℤ

abbrev pub lock : Clock → Start → ℤ → List Lock
lock clock start moment = record { clock = clock; start = start; moment = moment } ∷ []

-- 80 to 83: the moment has to be reached.
abbrev pub to_reach : Coin → Condition → List Lock
to_reach coin (AssertSecondsRelative moment) = lock Seconds (Birth (coin_id coin)) moment
to_reach coin (AssertSecondsAbsolute moment) = lock Seconds Zero moment
to_reach coin (AssertHeightRelative moment) = lock Height (Birth (coin_id coin)) moment
to_reach coin (AssertHeightAbsolute moment) = lock Height Zero moment
to_reach coin _ = []

-- 84 to 87: the same moments have to be ahead.
abbrev pub to_precede : Coin → Condition → List Lock
to_precede coin (AssertBeforeSecondsRelative moment) = lock Seconds (Birth (coin_id coin)) moment
to_precede coin (AssertBeforeSecondsAbsolute moment) = lock Seconds Zero moment
to_precede coin (AssertBeforeHeightRelative moment) = lock Height (Birth (coin_id coin)) moment
to_precede coin (AssertBeforeHeightAbsolute moment) = lock Height Zero moment
to_precede coin _ = []

-- 74, 75, 80, 82, 84 and 86
abbrev pub looks_at_record : Condition → Bool
looks_at_record (AssertMyBirthSeconds moment) = true
looks_at_record (AssertMyBirthHeight moment) = true
looks_at_record (AssertSecondsRelative moment) = true
looks_at_record (AssertHeightRelative moment) = true
looks_at_record (AssertBeforeSecondsRelative moment) = true
looks_at_record (AssertBeforeHeightRelative moment) = true
looks_at_record _ = false
