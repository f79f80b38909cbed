-- Laws of fits, prices and admissions, each proved once for the crates above. They follow from the definitions.
use Rattle.std.specs.Prelude.{◌≡◌, ◌⊎◌, List, [], ◌∷◌, ◌++◌, length, map, Ok, Option, option_map}
use Rattle.std.specs.List.{AllByRecursion}
use Rattle.coin_facts.specs.declared.hash32.Hash32.{Hash32}
use Rattle.coin_facts.specs.declared.coin.Coin.{Coin}
use Rattle.coin_facts.specs.CoinId.{coin_id}
use Rattle.block_spec.specs.declared.spend.Spend.{Spend}
use Rattle.block_spec.specs.declared.bundle.Bundle.{Bundle}
use Rattle.block_spec.specs.BundleTree.{bundle_id}
use Rattle.chain_spec.specs.Chain.{Ledger, look_up, ledger_of}
use Rattle.chain_spec.specs.Soundness.{is_unspent}
use Rattle.judge_spec.specs.declared.class.Class.TheVariants.{Forward}
use Rattle.judge_spec.specs.declared.limits.Limits.{Limits}
use Rattle.judge_spec.specs.Facts.{Facts, acts_of}
use Rattle.judge_spec.specs.Judgement.{Fine, terms_of, spends_in, judgement_of_facts}
use Rattle.judge_spec.specs.JudgeLaws.{AreFound}
use Rattle.judge_spec.specs.Agreement.{AgreeOn}
use Rattle.pool_spec.specs.Classes.{class_of, classes_of}
use Rattle.pool_spec.specs.Fit.{Taken, nothing_taken, unspent_coins, coins_left, only_coin, fit_of}
use Rattle.pool_spec.specs.Prices.{Priced, priced}
use Rattle.pool_spec.specs.Pool.{PoolState, AdmittedView, Admits, admission, after_peak_change}

-- ---- what a fit looks at

-- the coin of this record of a ledger, if there is one
abbrev pub coin_in : Ledger → Hash32 → Option Coin
coin_in ledger id = option_map (λ found. found.coin) (look_up ledger id)

-- Two ledgers look alike to a Forward spend: its coin is unspent in both or in neither, they have the same unspent coins of
-- its puzzle hash and amount, and where that leaves one coin, the same parent of it or none.
pub record LookAlike (ledger other : Ledger) (taken : Taken) (spend : Spend) : Type 0 where
  pub coin : is_unspent (look_up ledger (coin_id spend.coin)) ≡ is_unspent (look_up other (coin_id spend.coin))
  pub pair :
      unspent_coins ledger spend.coin.puzzle_hash spend.coin.amount
      ≡ unspent_coins other spend.coin.puzzle_hash spend.coin.amount
  pub parent : (found : Coin) →
      only_coin (coins_left ledger taken spend.coin.puzzle_hash spend.coin.amount) ≡ Ok found →
      coin_in ledger found.parent ≡ coin_in other found.parent

-- They look alike to each Forward spend of a bundle.
abbrev pub LookAlikeTo : Limits → Ledger → Ledger → Taken → Bundle → Type 0
LookAlikeTo limits ledger other taken bundle =
    AllByRecursion (λ spend. class_of limits bundle.spends spend ≡ Forward → LookAlike ledger other taken spend) bundle.spends

-- A bundle has one fit on ledgers that look alike to it.
abbrev pub FitLooksAt : Type 0
FitLooksAt = (limits : Limits) (ledger other : Ledger) (taken : Taken) (bundle : Bundle) →
    LookAlikeTo limits ledger other taken bundle → fit_of limits ledger taken bundle ≡ fit_of limits other taken bundle

-- It has one price there, where they agree on what is found of its fit's spends too, if facts are found of them all.
abbrev pub PriceStands : Type 0
PriceStands = (limits : Limits) (ledger other : Ledger) (bundle : Bundle) → LookAlikeTo limits ledger other nothing_taken bundle →
    ((list : List Facts) → AreFound limits.max_cost list → spends_in list ≡ fit_of limits ledger nothing_taken bundle →
    AgreeOn ledger other (map acts_of list)) →
    priced limits ledger bundle ≡ priced limits other bundle

-- ---- what a price says

pub record IsPriceOf (limits : Limits) (ledger : Ledger) (bundle : Bundle) (item : Priced) : Type 0 where
  pub itself : item.bundle ≡ bundle
  pub classes : item.classes ≡ classes_of limits bundle
  pub places : length item.classes ≡ length item.fit
  pub fit : spends_in item.fit ≡ fit_of limits ledger nothing_taken bundle
  pub found : AreFound limits.max_cost item.fit
  pub fine : judgement_of_facts (terms_of limits) ledger item.fit bundle.attested ≡ Fine item.cost item.fee

-- A priced bundle has facts of all spends of its fit, which is Fine at its cost and fee, and classes place by place.
abbrev pub PricedIsFine : Type 0
PricedIsFine = (limits : Limits) (ledger : Ledger) (bundle : Bundle) (item : Priced) →
    priced limits ledger bundle ≡ Ok item → IsPriceOf limits ledger bundle item

-- ---- what an admission changes

-- The last list is made of the other two, each in its order.
abbrev pub IsMerged : List Bundle → List Bundle → List Bundle → Type 0
IsMerged xs ys [] = (xs ≡ []) × (ys ≡ [])
IsMerged xs ys (z ∷ zs) =
    ((rest : List Bundle) × (xs ≡ z ∷ rest) × IsMerged rest ys zs)
    ⊎ ((rest : List Bundle) × (ys ≡ z ∷ rest) × IsMerged xs rest zs)

-- Each bundle of the pool has a price.
abbrev pub AllArePriced : PoolState → Type 0
AllArePriced state =
    AllByRecursion (λ bundle. (item : Priced) × (priced state.limits (ledger_of state.chain) bundle ≡ Ok item)) state.bundles

-- The new bundle has a price, which is told. The replaced bundles stood in the pool, and are told in its order. The others
-- stay in order, and the new one goes last.
pub record HasReplaced (state : PoolState) (bundle : Bundle) (told : AdmittedView) (next : PoolState) : Type 0 where
  pub item : Priced
  pub price : priced state.limits (ledger_of state.chain) bundle ≡ Ok item
  pub told_fee : told.fee ≡ item.fee
  pub told_cost : told.cost ≡ item.cost
  pub replaced : List Bundle
  pub rest : List Bundle
  pub told_ids : told.replaced ≡ map bundle_id replaced
  pub told_id : told.id ≡ bundle_id bundle
  pub after : next ≡ record state { bundles = rest ++ bundle ∷ [] }
  pub others : IsMerged replaced rest state.bundles

abbrev pub ReplacedAreOthers : Type 0
ReplacedAreOthers = (state : PoolState) (bundle : Bundle) (told : AdmittedView) (next : PoolState) → AllArePriced state →
    admission state bundle ≡ Admits told next → HasReplaced state bundle told next

-- ---- every bundle of a pool has a price

-- After a change of the peak each bundle that stays has one.
abbrev pub StayingArePriced : Type 0
StayingArePriced = (state : PoolState) → AllArePriced (after_peak_change state)

-- After an admission each still has one.
abbrev pub AdmittedArePriced : Type 0
AdmittedArePriced = (state : PoolState) (bundle : Bundle) (told : AdmittedView) (next : PoolState) → AllArePriced state →
    admission state bundle ≡ Admits told next → AllArePriced next
