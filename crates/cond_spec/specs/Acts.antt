-- What lists of spends do together, by their coins and conditions alone. Source: Chia documentation of conditions.
use Rattle.std.specs.Prelude.{ℕ, List, [], ◌∷◌, ◌++◌, map}
use Rattle.std.specs.List.{sum_by, flat_map}
use Rattle.sha2.specs.Sha256.{sha256}
use Rattle.coin_facts.specs.declared.hash32.Hash32.{Hash32}
use Rattle.coin_facts.specs.declared.coin.Coin.{Coin}
use Rattle.coin_facts.specs.CoinId.{coin_id}
use Rattle.cond_spec.specs.declared.condition.Condition.{Condition}
use Rattle.cond_spec.specs.declared.condition.Condition.TheVariants.{CreateCoin, ReserveFee, CreateCoinAnnouncement, CreatePuzzleAnnouncement}

-- the coin that a spend spends, and its conditions
pub record Acts : Type 0 where
  pub coin : Coin
  pub conditions : List Condition

-- what the conditions give, one after another
abbrev pub of_spend : {A : Type 0} → (Coin → Condition → List A) → Acts → List A
of_spend given acts = flat_map (given acts.coin) acts.conditions

abbrev pub of_list : {A : Type 0} → (Coin → Condition → List A) → List Acts → List A
of_list given list = flat_map (of_spend given) list

-- ---- coins

abbrev pub spent_ids : List Acts → List Hash32
spent_ids list = map (λ acts. coin_id acts.coin) list

abbrev pub spent_puzzles : List Acts → List Hash32
spent_puzzles list = map (λ acts. acts.coin.puzzle_hash) list

-- 51 makes a coin whose parent is the spent one.
abbrev pub coin_made : Coin → Condition → List Coin
coin_made coin (CreateCoin hash amount) = record { parent = coin_id coin; puzzle_hash = hash; amount = amount } ∷ []
coin_made coin _ = []

abbrev pub created_coins : List Acts → List Coin
created_coins list = of_list coin_made list

abbrev pub created_ids : List Acts → List Hash32
created_ids list = map coin_id (created_coins list)

-- ---- amounts

abbrev pub amounts : List Coin → ℕ
amounts coins = sum_by (λ coin. coin.amount) coins

abbrev pub spent_amounts : List Acts → ℕ
spent_amounts list = sum_by (λ acts. acts.coin.amount) list

abbrev pub created_amounts : List Acts → ℕ
created_amounts list = amounts (created_coins list)

-- 52 reserves a part of the fee.
abbrev pub fee_reserved : Condition → ℕ
fee_reserved (ReserveFee amount) = amount
fee_reserved _ = 0

abbrev pub reserved_fees : List Acts → ℕ
reserved_fees list = sum_by (λ acts. sum_by fee_reserved acts.conditions) list

-- ---- announcements

abbrev pub announcement : Hash32 → List ℕ → Hash32
announcement by text = record { bytes = sha256 (by.bytes ++ text) }

-- 60 announces a text by the coin's id, 62 by its puzzle hash.
abbrev pub coin_announcement : Coin → Condition → List Hash32
coin_announcement coin (CreateCoinAnnouncement text) = announcement (coin_id coin) text ∷ []
coin_announcement coin _ = []

abbrev pub puzzle_announcement : Coin → Condition → List Hash32
puzzle_announcement coin (CreatePuzzleAnnouncement text) = announcement coin.puzzle_hash text ∷ []
puzzle_announcement coin _ = []

abbrev pub coin_announcements : List Acts → List Hash32
coin_announcements list = of_list coin_announcement list

abbrev pub puzzle_announcements : List Acts → List Hash32
puzzle_announcements list = of_list puzzle_announcement list
