-- The entries of a store's map, found and grown.
use Rattle.std.proofs.Common.{◌≡◌, ℕ, List, [], ◌∷◌, ◌++◌, map, cond, Some, refl, ap, subst, ◌∙◌}
use Rattle.std.specs.Cmp.{nat_eq_equiv}
use Rattle.std.specs.Cmp.Lexicographic.{lists_equiv}
use Rattle.std.specs.List.{find, IsDistinct}
use Rattle.std.specs.Map.{lookup, keys_of}
use Rattle.coin_facts.specs.declared.hash32.Hash32.{Hash32}
use Rattle.coin_facts.specs.declared.coin.Coin.{Coin}
use Rattle.coin_facts.specs.contracts.hash32.Hash32PartialEq.TheImpl.{eq-value}
use Rattle.coin_facts.specs.CoinId.{coin_id}
use Rattle.chain_spec.specs.declared.chain.Record.{Record}
use Rattle.chain_spec.specs.Chain.{Chain, start_record, look_up, start_ledger}
use Rattle.coin_facts.specs.IdLists.{is_same_id, has_id}
use Rattle.coin_store.specs.DistinctIds.{HasDistinctIds}
use Rattle.coin_store.specs.Entries.{entry_of, entries_of}

-- the keys' `==` is that of ids, whichever of the two comes first
key_eq-has_id : (id : Hash32) (coin : Coin) → eq-value.it id (coin_id coin) ≡ has_id id coin
key_eq-has_id id coin = (lists_equiv nat_eq_equiv).symm id.bytes (coin_id coin).bytes

lookup-entries_of : (seconds : ℕ) (id : Hash32) (coins : List Coin)
    → lookup (eq-value.it id) (entries_of seconds coins) ≡ find (λ found. has_id id found.coin) (map (start_record seconds) coins)
lookup-entries_of seconds id [] = refl
lookup-entries_of seconds id (coin ∷ coins) =
    λ j. cond (key_eq-has_id id coin j) (Some (start_record seconds coin)) (lookup-entries_of seconds id coins j)

entries_of-push : (seconds : ℕ) (coins : List Coin) (coin : Coin)
    → entries_of seconds coins ++ entry_of seconds coin ∷ [] ≡ entries_of seconds (coins ++ coin ∷ [])
entries_of-push seconds [] coin = refl
entries_of-push seconds (x ∷ coins) coin =
    ap (λ es. entry_of seconds x ∷ es) (entries_of-push seconds coins coin)

keys_of-entries_of : (seconds : ℕ) (coins : List Coin) → keys_of (entries_of seconds coins) ≡ map coin_id coins
keys_of-entries_of seconds [] = refl
keys_of-entries_of seconds (coin ∷ coins) =
    ap (λ ids. coin_id coin ∷ ids) (keys_of-entries_of seconds coins)

module _ (entries : List (Hash32 × Record)) (chain : Chain) (held : entries ≡ entries_of chain.seconds chain.coins) where
  -- the entries find what the chain has
  pub lookup-held : (id : Hash32) → lookup (eq-value.it id) entries ≡ look_up (start_ledger chain) id
  lookup-held id =
      ap (lookup (eq-value.it id)) held ∙ lookup-entries_of chain.seconds id chain.coins

  -- one more entry is that of one more coin
  pub held-push : (coin : Coin) → entries ++ entry_of chain.seconds coin ∷ [] ≡ entries_of chain.seconds (chain.coins ++ coin ∷ [])
  held-push coin =
      ap (λ es. es ++ entry_of chain.seconds coin ∷ []) held ∙ entries_of-push chain.seconds chain.coins coin

  -- distinct keys are distinct ids
  pub distinct-held : IsDistinct eq-value.it (keys_of entries) → HasDistinctIds chain
  distinct-held distinct =
      subst (IsDistinct is_same_id) (ap keys_of held ∙ keys_of-entries_of chain.seconds chain.coins) distinct
