-- The rules that spends break by their coins and conditions alone. Each gives the place where it is broken: the rules of one
-- spend the place of the condition, those of a list that of the spend. Source: Chia documentation of conditions; the places
-- are this project's own.
use Rattle.std.specs.Prelude.{ℕ, ◌+◌, ◌==◌, ◌&&◌, List, [], length, nat_lt, Bool, false, not, Option, position}
use Rattle.std.specs.List.{list_any}
use Rattle.coin_facts.specs.declared.hash32.Hash32.{Hash32}
use Rattle.coin_facts.specs.declared.coin.Coin.{Coin}
use Rattle.coin_facts.specs.CoinId.{coin_id}
use Rattle.coin_facts.specs.Steps.{when}
use Rattle.coin_facts.specs.IdLists.{is_same_id, is_among, repeat_by}
use Rattle.cond_spec.specs.declared.condition.Condition.{Condition}
use Rattle.cond_spec.specs.declared.condition.Condition.TheVariants.{CreateCoin, AssertCoinAnnouncement, AssertPuzzleAnnouncement, AssertConcurrentSpend, AssertConcurrentPuzzle, AssertMyCoinId, AssertMyParentId, AssertMyPuzzleHash, AssertMyAmount, AssertEphemeral}
use Rattle.cond_spec.specs.Acts.{Acts, spent_ids, spent_puzzles, created_ids, spent_amounts, created_amounts, reserved_fees, coin_announcements, puzzle_announcements}
use Rattle.cond_spec.specs.Messages.{Message, sent, received, messages, times}

-- ---- of one spend

abbrev pub creates : Hash32 → ℕ → Condition → Bool
creates hash amount (CreateCoin other n) = is_same_id hash other && (amount == n)
creates hash amount _ = false

abbrev pub is_same_output : Condition → Condition → Bool
is_same_output (CreateCoin hash amount) condition = creates hash amount condition
is_same_output _ condition = false

-- Rule 9: two created coins of the spend have equal puzzle hash and amount; at the second.
abbrev pub same_output : Acts → Option ℕ
same_output acts = repeat_by is_same_output [] 0 acts.conditions

abbrev pub differs_from : Coin → Condition → Bool
differs_from coin (AssertMyCoinId id) = not (is_same_id id (coin_id coin))
differs_from coin (AssertMyParentId id) = not (is_same_id id coin.parent)
differs_from coin (AssertMyPuzzleHash hash) = not (is_same_id hash coin.puzzle_hash)
differs_from coin (AssertMyAmount amount) = not (amount == coin.amount)
differs_from coin _ = false

-- Rule 10: a condition 70 to 73 differs from the coin.
abbrev pub wrong_own_fact : Acts → Option ℕ
wrong_own_fact acts = position (differs_from acts.coin) acts.conditions

-- ---- of a list

-- the first spend with a condition that a test finds
abbrev pub first_with : (Coin → Condition → Bool) → List Acts → Option ℕ
first_with test list = position (λ acts. list_any (test acts.coin) acts.conditions) list

abbrev pub is_unmade : List Acts → Condition → Bool
is_unmade list (AssertCoinAnnouncement id) = not (is_among (coin_announcements list) id)
is_unmade list (AssertPuzzleAnnouncement id) = not (is_among (puzzle_announcements list) id)
is_unmade list _ = false

-- Rule 16: an asserted announcement isn't made in the list.
abbrev pub unmade_announcement : List Acts → Option ℕ
unmade_announcement list = first_with (λ coin. is_unmade list) list

abbrev pub is_absent : List Acts → Condition → Bool
is_absent list (AssertConcurrentSpend id) = not (is_among (spent_ids list) id)
is_absent list (AssertConcurrentPuzzle hash) = not (is_among (spent_puzzles list) hash)
is_absent list _ = false

-- Rule 17: 64 or 65 names no spend of the list.
abbrev pub absent_spend : List Acts → Option ℕ
absent_spend list = first_with (λ coin. is_absent list) list

abbrev pub is_born_before : List Acts → Coin → Condition → Bool
is_born_before list coin AssertEphemeral = not (is_among (created_ids list) (coin_id coin))
is_born_before list coin _ = false

-- Rule 18: 76 on a coin that the list doesn't create.
abbrev pub not_ephemeral : List Acts → Option ℕ
not_ephemeral list = first_with (is_born_before list) list

abbrev pub is_uneven : List Acts → Message → Bool
is_uneven list message = not (times sent list message == times received list message)

-- Rule 19: a message is sent and received in unequal numbers; at the first spend with such a message.
abbrev pub uneven_message : List Acts → Option ℕ
uneven_message list = position (λ acts. list_any (is_uneven list) (messages acts)) list

-- Rule 20: the created amounts are more than the spent ones; at the number of spends.
abbrev pub creates_too_much : List Acts → Option ℕ
creates_too_much list = when (nat_lt (spent_amounts list) (created_amounts list)) (length list)

-- Rule 21: the created amounts and the reserved fees are more than the spent amounts; at the number of spends.
abbrev pub lacks_reserved_fee : List Acts → Option ℕ
lacks_reserved_fee list = when (nat_lt (spent_amounts list) (created_amounts list + reserved_fees list)) (length list)
