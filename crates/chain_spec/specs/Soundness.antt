-- Which blocks can be connected, and which chains can be. Source: Chia documentation of the coin set.
use Rattle.std.specs.Prelude.{◌≡◌, ◌-◌, ◌^◌, ◌<◌, ◌||◌, List, [], ◌∷◌, Bool, true, false, not, Option, Some, None, map, is_none}
use Rattle.std.specs.List.{IsDistinct, list_all}
use Rattle.coin_facts.specs.declared.hash32.Hash32.{Hash32}
use Rattle.coin_facts.specs.declared.coin.Coin.{Coin}
use Rattle.coin_facts.specs.CoinId.{coin_id}
use Rattle.coin_facts.specs.IdLists.{is_same_id, is_among}
use Rattle.chain_spec.specs.declared.chain.Record.{Record}
use Rattle.chain_spec.specs.Chain.{Ledger, look_up, is_in_chain, Connected, after_block, Chain, start_ledger}

abbrev pub HasDistinctIds : List Coin → Type 0
HasDistinctIds coins = IsDistinct is_same_id (map coin_id coins)

abbrev pub is_unspent : Option Record → Bool
is_unspent None = false
is_unspent (Some found) = is_none found.spent

-- An id can be spent that is unspent, or that the same block creates.
abbrev pub is_spendable : Ledger → Connected → Hash32 → Bool
is_spendable ledger block id = is_unspent (look_up ledger id) || is_among (map coin_id block.created) id

pub record CanConnect (ledger : Ledger) (block : Connected) : Type 0 where
  pub spent_once : IsDistinct is_same_id block.spent
  pub spendable : list_all (is_spendable ledger block) block.spent ≡ true
  pub created_once : HasDistinctIds block.created
  pub new : list_all (λ id. not (is_in_chain ledger id)) (map coin_id block.created) ≡ true
  pub room : ledger.peak.height < 2 ^ 32 - 1

-- Each block could be connected in its turn.
abbrev pub CanFollow : Ledger → List Connected → Type 0
CanFollow ledger [] = Unit {0}
CanFollow ledger (block ∷ blocks) = CanConnect ledger block × CanFollow (after_block ledger block) blocks

abbrev pub IsSound : Chain → Type 0
IsSound chain = HasDistinctIds chain.coins × CanFollow (start_ledger chain) chain.blocks
