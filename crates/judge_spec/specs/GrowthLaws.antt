-- What becomes of a list that breaks no rule when it grows: most rules are asked of the added spends alone, against both
-- parts. It follows from the rules.
use Rattle.std.specs.Prelude.{◌≡◌, ℕ, ◌+◌, ◌&&◌, ◌||◌, List, [], ◌++◌, length, map, reverse, Bool, Option, None, option_map, position}
use Rattle.std.specs.List.{list_any}
use Rattle.coin_facts.specs.declared.coin.Coin.{Coin}
use Rattle.coin_facts.specs.declared.hash32.Hash32.{Hash32}
use Rattle.coin_facts.specs.CoinId.{coin_id}
use Rattle.coin_facts.specs.IdLists.{is_among, repeat_behind}
use Rattle.block_spec.specs.declared.spend.Spend.{Spend}
use Rattle.block_spec.specs.declared.attested.Signed.{Signed}
use Rattle.chain_spec.specs.declared.chain.Peak.{Peak}
use Rattle.chain_spec.specs.Chain.{is_in_chain}
use Rattle.cond_spec.specs.declared.condition.Condition.{Condition}
use Rattle.cond_spec.specs.Acts.{Acts, created_ids, spent_amounts, created_amounts, reserved_fees}
use Rattle.cond_spec.specs.Locks.{looks_at_record}
use Rattle.cond_spec.specs.Messages.{Message, times}
use Rattle.cond_spec.specs.ActRules.{first_with, is_unmade, is_absent, is_born_before}
use Rattle.judge_spec.specs.Facts.{Facts, acts_of}
use Rattle.judge_spec.specs.Checks.{Terms, Scene, id_of, acts_in, first_spend, is_unknown, is_spent_in_chain, has_wrong_birth, is_too_early, is_too_late, is_not_attested, old_id_from, created_by_each, coin_exists}
use Rattle.judge_spec.specs.Judgement.{Verdict, Fine, spent_twice, with_costs}

-- what is judged, with more spends and attested pairs behind
abbrev pub grown : Scene → List Facts → List Signed → Scene
grown kept added attested = record kept { list = kept.list ++ added; attested = kept.attested ++ attested }

-- a place among the added spends, as one of the grown list
abbrev pub place_behind : ℕ → Option ℕ → Option ℕ
place_behind count place = option_map (λ n. count + n) place

-- ---- rules that only added spends break anew

abbrev pub ids_spent : List Spend → List Hash32
ids_spent spends = map (λ spend. coin_id spend.coin) spends

-- Rule 2 is asked of the added coins, against all in front.
abbrev pub SpentTwiceGrows : Type 0
SpentTwiceGrows = (kept added : List Spend) → spent_twice kept ≡ None →
    spent_twice (kept ++ added) ≡ repeat_behind (reverse (ids_spent kept)) (length kept) (ids_spent added)

-- The cost of the list is asked of each added spend.
abbrev pub CostsGrow : Type 0
CostsGrow = (terms : Terms) (peak : Peak) (kept added : List Facts) (verdict : Verdict) (cost fee : ℕ) →
    with_costs terms peak [] kept (Fine cost fee) ≡ Fine cost fee →
    with_costs terms peak [] (kept ++ added) verdict ≡ with_costs terms peak kept added verdict

-- A rule on each spend is asked of the added ones alone.
abbrev pub AsksAddedSpends : (Scene → Facts → Bool) → Type 0
AsksAddedSpends test = (kept : Scene) (added : List Facts) (attested : List Signed) → first_spend test kept ≡ None →
    first_spend test (grown kept added attested) ≡ place_behind (length kept.list) (position (test (grown kept added attested)) added)

-- Such are the rules 11, 12, 14, 15 and 22.
abbrev pub SpendsGrow : Type 0
SpendsGrow = AsksAddedSpends is_unknown × AsksAddedSpends is_spent_in_chain × AsksAddedSpends is_too_early
    × AsksAddedSpends is_too_late × AsksAddedSpends is_not_attested

-- The same of a rule on the conditions of each spend.
abbrev pub AsksAddedActs : (List Acts → Coin → Condition → Bool) → Type 0
AsksAddedActs test = (kept added : List Acts) → first_with (test kept) kept ≡ None →
    first_with (test (kept ++ added)) (kept ++ added) ≡ place_behind (length kept) (first_with (test (kept ++ added)) added)

-- Such are the rules 16, 17 and 18.
abbrev pub ActsGrow : Type 0
ActsGrow = AsksAddedActs (λ list coin. is_unmade list) × AsksAddedActs (λ list coin. is_absent list) × AsksAddedActs is_born_before

-- Rule 23 is asked of the coins that added spends create, against all in front.
abbrev pub NewCoinsGrow : Type 0
NewCoinsGrow = (kept : Scene) (added : List Facts) (attested : List Signed) → coin_exists kept ≡ None →
    coin_exists (grown kept added attested)
    ≡ old_id_from (is_in_chain kept.ledger) (created_ids (acts_in kept)) (length kept.list) (created_by_each (map acts_of added))

-- ---- rules that kept spends may break anew

-- Rule 13: by a coin that an added spend creates.
abbrev pub BirthsGrow : Type 0
BirthsGrow = (kept : Scene) (added : List Facts) (attested : List Signed) (facts : Facts) →
    has_wrong_birth (grown kept added attested) facts
    ≡ (has_wrong_birth kept facts || (is_among (created_ids (map acts_of added)) (id_of facts) && list_any looks_at_record facts.conditions))

-- Rule 19: by a message that an added spend sends or receives.
abbrev pub MessagesGrow : Type 0
MessagesGrow = (given : Coin → Condition → List Message) (kept added : List Acts) (message : Message) →
    times given (kept ++ added) message ≡ times given kept message + times given added message

-- The rules 20 and 21 go by sums.
abbrev pub SumsGrow : Type 0
SumsGrow = (kept added : List Acts) → (spent_amounts (kept ++ added) ≡ spent_amounts kept + spent_amounts added)
    × (created_amounts (kept ++ added) ≡ created_amounts kept + created_amounts added)
    × (reserved_fees (kept ++ added) ≡ reserved_fees kept + reserved_fees added)
