-- The rules of a list of spends that are asked over all spends: 11 to 23. Source: Chia documentation of the coin set and of
-- conditions; the numbers, their order and the places are this project's own.
use Rattle.std.specs.Prelude.{ℕ, suc, pos, int_le, ◌&&◌, ◌||◌, List, [], ◌∷◌, ◌++◌, map, Bool, false, not, is_some, Option, Some, None, position, if◌then◌else◌}
use Rattle.std.specs.List.{list_any, list_all}
use Rattle.std.specs.Str.{bytes_eq}
use Rattle.coin_facts.specs.declared.hash32.Hash32.{Hash32}
use Rattle.coin_facts.specs.CoinId.{coin_id}
use Rattle.coin_facts.specs.IdLists.{is_among, repeat_behind}
use Rattle.block_spec.specs.declared.attested.Signed.{Signed}
use Rattle.chain_spec.specs.declared.chain.Record.{Record}
use Rattle.chain_spec.specs.Chain.{Ledger, look_up, is_in_chain}
use Rattle.cond_spec.specs.declared.condition.Condition.{Condition}
use Rattle.cond_spec.specs.declared.condition.Condition.TheVariants.{AssertMyBirthSeconds, AssertMyBirthHeight}
use Rattle.cond_spec.specs.Acts.{Acts, of_spend, coin_made, created_ids}
use Rattle.cond_spec.specs.Signing.{ToSign, to_sign}
use Rattle.cond_spec.specs.Locks.{to_reach, to_precede, looks_at_record}
use Rattle.cond_spec.specs.ActRules.{unmade_announcement, absent_spend, not_ephemeral, uneven_message, creates_too_much, lacks_reserved_fee}
use Rattle.judge_spec.specs.declared.rule.Rule.{Rule}
use Rattle.judge_spec.specs.declared.rule.Rule.TheVariants as rules
use Rattle.judge_spec.specs.Facts.{Facts, acts_of}
use Rattle.judge_spec.specs.Locked.{is_reached, is_ahead}

-- what of the limits a judge is told
pub record Terms : Type 0 where
  -- the most that a list may cost
  pub limit : ℕ

-- what is judged, and on what
pub record Scene : Type 0 where
  pub terms : Terms
  pub ledger : Ledger
  pub list : List Facts
  pub attested : List Signed

-- a rule, with the place where it is broken
pub record Check : Type 0 where
  pub rule : Rule
  pub broken_at : Scene → Option ℕ

abbrev pub check : Rule → (Scene → Option ℕ) → Check
check rule broken_at = record { rule = rule; broken_at = broken_at }

abbrev pub acts_in : Scene → List Acts
acts_in scene = map acts_of scene.list

abbrev pub id_of : Facts → Hash32
id_of facts = coin_id facts.spend.coin

-- the first spend that a test finds
abbrev pub first_spend : (Scene → Facts → Bool) → Scene → Option ℕ
first_spend test scene = position (test scene) scene.list

abbrev pub is_created : Scene → Facts → Bool
is_created scene facts = is_among (created_ids (acts_in scene)) (id_of facts)

-- Rule 11: the coin is neither in the chain nor created by the list.
abbrev pub is_unknown : Scene → Facts → Bool
is_unknown scene facts = not (is_in_chain scene.ledger (id_of facts) || is_created scene facts)

-- Rule 12: the coin is spent in the chain.
abbrev pub is_spent : Option Record → Bool
is_spent (Some found) = is_some found.spent
is_spent None = false

abbrev pub is_spent_in_chain : Scene → Facts → Bool
is_spent_in_chain scene facts = is_spent (look_up scene.ledger (id_of facts))

-- Rule 13: 74 or 75 differs from the record; or 74, 75, 80, 82, 84 or 86 on a coin that the list creates.
abbrev pub is_other_birth : Record → Condition → Bool
is_other_birth found (AssertMyBirthSeconds moment) = not (int_le moment (pos found.seconds) && int_le (pos found.seconds) moment)
is_other_birth found (AssertMyBirthHeight moment) = not (int_le moment (pos found.height) && int_le (pos found.height) moment)
is_other_birth found _ = false

abbrev pub has_other_birth : Option Record → List Condition → Bool
has_other_birth (Some found) conditions = list_any (is_other_birth found) conditions
has_other_birth None conditions = false

abbrev pub has_wrong_birth : Scene → Facts → Bool
has_wrong_birth scene facts =
    has_other_birth (look_up scene.ledger (id_of facts)) facts.conditions
    || (is_created scene facts && list_any looks_at_record facts.conditions)

-- Rule 14: one of 80 to 83 doesn't hold.
abbrev pub is_too_early : Scene → Facts → Bool
is_too_early scene facts = not (list_all (is_reached scene.ledger) (of_spend to_reach (acts_of facts)))

-- Rule 15: one of 84 to 87 doesn't hold.
abbrev pub is_too_late : Scene → Facts → Bool
is_too_late scene facts = not (list_all (is_ahead scene.ledger) (of_spend to_precede (acts_of facts)))

-- Rule 22: a pair to be signed isn't attested, byte by byte.
abbrev pub is_attested : List Signed → ToSign → Bool
is_attested attested pair = list_any (λ signed. bytes_eq signed.key pair.key && bytes_eq signed.message pair.message) attested

abbrev pub is_not_attested : Scene → Facts → Bool
is_not_attested scene facts =
    not (list_all (is_attested scene.attested) (of_spend (to_sign scene.ledger.genesis) (acts_of facts)))

-- Rule 23: a created coin's id is in the chain already, or an earlier created coin of the list has the same id.
abbrev pub has_old_id : (Hash32 → Bool) → List Hash32 → List Hash32 → Bool
has_old_id is_there earlier ids = list_any is_there ids || is_some (repeat_behind earlier 0 ids)

abbrev pub old_id_from : (Hash32 → Bool) → List Hash32 → ℕ → List (List Hash32) → Option ℕ
old_id_from is_there earlier place [] = None
old_id_from is_there earlier place (ids ∷ others) =
    if has_old_id is_there earlier ids then Some place else old_id_from is_there (earlier ++ ids) (suc place) others

abbrev pub created_by_each : List Acts → List (List Hash32)
created_by_each list = map (λ acts. map coin_id (of_spend coin_made acts)) list

abbrev pub coin_exists : Scene → Option ℕ
coin_exists scene = old_id_from (is_in_chain scene.ledger) [] 0 (created_by_each (acts_in scene))

-- a rule that looks at coins and conditions alone
abbrev pub on_acts : (List Acts → Option ℕ) → Scene → Option ℕ
on_acts broken_at scene = broken_at (acts_in scene)

-- The rules that look up spent ids alone, in the order in which they are asked.
abbrev pub checks_of_spent_coins : List Check
checks_of_spent_coins =
    check rules.UnknownCoin (first_spend is_unknown)
    ∷ check rules.SpentInChain (first_spend is_spent_in_chain)
    ∷ check rules.WrongBirth (first_spend has_wrong_birth)
    ∷ check rules.TooEarly (first_spend is_too_early)
    ∷ check rules.TooLate (first_spend is_too_late)
    ∷ check rules.UnmadeAnnouncement (on_acts unmade_announcement)
    ∷ check rules.AbsentSpend (on_acts absent_spend)
    ∷ check rules.NotEphemeral (on_acts not_ephemeral)
    ∷ check rules.UnevenMessage (on_acts uneven_message)
    ∷ check rules.CreatesTooMuch (on_acts creates_too_much)
    ∷ check rules.LacksReservedFee (on_acts lacks_reserved_fee)
    ∷ check rules.NotAttested (first_spend is_not_attested)
    ∷ []

-- The last rule is the only one that looks up created ids.
abbrev pub check_of_new_coins : Check
check_of_new_coins = check rules.CoinExists coin_exists
