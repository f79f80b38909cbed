-- The records of a sound chain have distinct ids.
use Rattle.std.proofs.Common.{◌≡◌, ℕ, suc, Bool, true, false, ◌||◌, not, ◌&&◌, cond, if◌then◌else◌, Some, List, [], ◌∷◌, ◌++◌, map, refl, ap, sym, ◌∙◌, subst}
use Rattle.std.specs.Prelude.{is_some}
use Rattle.std.specs.List.{IsDistinct, AllByRecursion, list_all, find}
use Rattle.std.proofs.lemmas.Bool.{or_parts}
use Rattle.std.proofs.lemmas.List.{map-append}
use Rattle.coin_facts.specs.declared.hash32.Hash32.{Hash32}
use Rattle.coin_facts.specs.declared.coin.Coin.{Coin}
use Rattle.coin_facts.specs.CoinId.{coin_id}
use Rattle.coin_facts.specs.IdLists.{is_same_id, has_id, is_among}
use Rattle.chain_spec.specs.declared.chain.Record.{Record}
use Rattle.chain_spec.specs.Chain.{Ledger, Connected, is_in_chain, made_at, spent_at, after_block, after_blocks, start_ledger}
use Rattle.chain_spec.specs.Soundness.{CanConnect, CanFollow}
use Rattle.chain_spec.specs.ChainLaws.{ids_of, RecordsAreApart}

-- ---- distinct ids, one list behind another

pub all-append : {A : Type 0} (P : A → Type 0) (xs ys : List A) → AllByRecursion P xs → AllByRecursion P ys → AllByRecursion P (xs ++ ys)
all-append P [] ys a b = b
all-append P (x ∷ xs) ys a b = (a.0, all-append P xs ys a.1 b)

pub apart-first : (x : Hash32) (xs ys : List Hash32) → AllByRecursion (λ y. is_among (x ∷ xs) y ≡ false) ys → AllByRecursion (λ y. is_same_id x y ≡ false) ys
apart-first x xs [] apart = tt
apart-first x xs (y ∷ ys) apart = ((or_parts (is_same_id x y) (is_among xs y) apart.0).0, apart-first x xs ys apart.1)

pub apart-rest : (x : Hash32) (xs ys : List Hash32) → AllByRecursion (λ y. is_among (x ∷ xs) y ≡ false) ys → AllByRecursion (λ y. is_among xs y ≡ false) ys
apart-rest x xs [] apart = tt
apart-rest x xs (y ∷ ys) apart = ((or_parts (is_same_id x y) (is_among xs y) apart.0).1, apart-rest x xs ys apart.1)

pub distinct-append : (xs ys : List Hash32) → IsDistinct is_same_id xs → IsDistinct is_same_id ys → AllByRecursion (λ y. is_among xs y ≡ false) ys → IsDistinct is_same_id (xs ++ ys)
unfolding IsDistinct
distinct-append [] ys a b apart = b
distinct-append (x ∷ xs) ys a b apart =
    (all-append (λ y. is_same_id x y ≡ false) xs ys a.0 (apart-first x xs ys apart), distinct-append xs ys a.1 b (apart-rest x xs ys apart))

-- ---- ids of records

ids-spent : (height : ℕ) (spent : List Hash32) (records : List Record) → ids_of (map (spent_at height spent) records) ≡ ids_of records
ids-spent height spent [] = refl
ids-spent height spent (one ∷ records) =
    λ j. same (is_among spent (coin_id one.coin)) j ∷ ids-spent height spent records j
  where
    same : (spends : Bool) → coin_id (if spends then record one { spent = Some height } else one).coin ≡ coin_id one.coin
    same true = refl
    same false = refl

pub ids-made : (height seconds : ℕ) (coins : List Coin) → ids_of (map (made_at height seconds) coins) ≡ map coin_id coins
ids-made height seconds [] = refl
ids-made height seconds (coin ∷ coins) = ap (λ ids. coin_id coin ∷ ids) (ids-made height seconds coins)

pub not-found : (id : Hash32) (records : List Record) → is_some (find (λ one. has_id id one.coin) records) ≡ false → is_among (ids_of records) id ≡ false
not-found id [] e = refl
not-found id (one ∷ records) e = step (has_id id one.coin) refl e (not-found id records)
  where
    step : (has : Bool) → has_id id one.coin ≡ has → is_some (cond has (Some one) (find (λ one. has_id id one.coin) records)) ≡ false
        → (is_some (find (λ one. has_id id one.coin) records) ≡ false → is_among (ids_of records) id ≡ false) → (has_id id one.coin || is_among (ids_of records) id) ≡ false
    step true is e more = cc
    step false is e more = λ j. is j || more e j

new-ids : (ledger : Ledger) (ids : List Hash32) → list_all (λ id. not (is_in_chain ledger id)) ids ≡ true → AllByRecursion (λ id. is_among (ids_of ledger.records) id ≡ false) ids
new-ids ledger [] e = tt
new-ids ledger (id ∷ ids) e =
    let both = none_there (is_in_chain ledger id) (list_all (λ other. not (is_in_chain ledger other)) ids) e in
    (not-found id ledger.records both.0, new-ids ledger ids both.1)
  where
    none_there : (b rest : Bool) → (not b && rest) ≡ true → (b ≡ false) × (rest ≡ true)
    none_there true rest e = cc
    none_there false rest e = (refl, e)

one-block : (ledger : Ledger) (block : Connected) → CanConnect ledger block → IsDistinct is_same_id (ids_of ledger.records) → IsDistinct is_same_id (ids_of (after_block ledger block).records)
one-block ledger block can distinct =
    let height = suc ledger.peak.height in
    let made = map (made_at height block.seconds) block.created in
    let ids : ids_of (after_block ledger block).records ≡ ids_of ledger.records ++ map coin_id block.created =
    ids-spent height block.spent (ledger.records ++ made) ∙ map-append (λ one. coin_id one.coin) ledger.records made ∙ ap (λ new. ids_of ledger.records ++ new) (ids-made height block.seconds block.created) in
    subst (IsDistinct is_same_id) (sym ids) (distinct-append (ids_of ledger.records) (map coin_id block.created) distinct can.created_once (new-ids ledger (map coin_id block.created) can.new))

all-blocks : (ledger : Ledger) (blocks : List Connected) → CanFollow ledger blocks → IsDistinct is_same_id (ids_of ledger.records) → IsDistinct is_same_id (ids_of (after_blocks ledger blocks).records)
all-blocks ledger [] can distinct = distinct
all-blocks ledger (block ∷ blocks) can distinct = all-blocks (after_block ledger block) blocks can.1 (one-block ledger block can.0 distinct)

pub records-apart : RecordsAreApart
records-apart chain sound =
    all-blocks (start_ledger chain) chain.blocks sound.1 (subst (IsDistinct is_same_id) (sym (ids-made 0 chain.seconds chain.coins)) sound.0)
