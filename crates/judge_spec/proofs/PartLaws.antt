-- Ledgers with the same records of a list's coins agree on the list.
use Rattle.std.proofs.Common.{◌≡◌, ℕ, true, not, List, [], ◌∷◌, ◌++◌, map, refl, ap, sym, ◌∙◌}
use Rattle.std.specs.Prelude.{ℤ, is_some, option_map, pos, int_le, ◌+ℤ◌}
use Rattle.std.specs.List.{AllByRecursion, flat_map, list_all}
use Rattle.std.proofs.lemmas.Bool.{and_parts}
use Rattle.std.proofs.lemmas.List.Folds.{list_all-append}
use Rattle.coin_facts.specs.declared.hash32.Hash32.{Hash32}
use Rattle.coin_facts.specs.declared.coin.Coin.{Coin}
use Rattle.coin_facts.specs.CoinId.{coin_id}
use Rattle.coin_facts.specs.IdLists.{is_among}
use Rattle.chain_spec.specs.Chain.{Ledger, look_up, is_in_chain}
use Rattle.chain_spec.specs.Looks.{part_of}
use Rattle.chain_spec.proofs.DistinctLaws.{all-append}
use Rattle.chain_spec.proofs.LookLaws.{suffices-ids}
use Rattle.cond_spec.specs.declared.condition.Condition.{Condition}
use Rattle.cond_spec.specs.declared.condition.Condition.TheVariants.{AssertSecondsRelative, AssertSecondsAbsolute, AssertHeightRelative, AssertHeightAbsolute, AssertBeforeSecondsRelative, AssertBeforeSecondsAbsolute, AssertBeforeHeightRelative, AssertBeforeHeightAbsolute}
use Rattle.cond_spec.specs.Acts.{Acts, of_spend, of_list, spent_ids, created_ids}
use Rattle.cond_spec.specs.Locks.{Clock, Seconds, Height, Birth, Zero, Lock, to_reach, to_precede}
use Rattle.judge_spec.specs.Facts.{acts_of}
use Rattle.judge_spec.specs.Locked.{now, born, holds_from, is_reached, is_ahead}
use Rattle.judge_spec.specs.Agreement.{RecordsAgree, PartDecides}
use Rattle.judge_spec.proofs.AgreementLaws.{looks-at-its-coins}

module _ (ledger other : Ledger) (peak : ledger.peak ≡ other.peak) where
  abbrev Same : Hash32 → Type 0
  Same id = look_up ledger id ≡ look_up other id

  abbrev SameReached : Lock → Type 0
  SameReached lock = is_reached ledger lock ≡ is_reached other lock

  abbrev SameAhead : Lock → Type 0
  SameAhead lock = is_ahead ledger lock ≡ is_ahead other lock

  reached-birth : (clock : Clock) (id : Hash32) (moment : ℤ) → Same id → SameReached (record { clock = clock; start = Birth id; moment = moment })
  reached-birth clock id moment same = λ j. holds_from (λ from. int_le (pos from +ℤ moment) (pos (now clock (peak j)))) (option_map (born clock) (same j))

  reached-zero : (clock : Clock) (moment : ℤ) → SameReached (record { clock = clock; start = Zero; moment = moment })
  reached-zero clock moment = λ j. int_le (pos 0 +ℤ moment) (pos (now clock (peak j)))

  ahead-birth : (clock : Clock) (id : Hash32) (moment : ℤ) → Same id → SameAhead (record { clock = clock; start = Birth id; moment = moment })
  ahead-birth clock id moment same = λ j. holds_from (λ from. not (int_le (pos from +ℤ moment) (pos (now clock (peak j))))) (option_map (born clock) (same j))

  ahead-zero : (clock : Clock) (moment : ℤ) → SameAhead (record { clock = clock; start = Zero; moment = moment })
  ahead-zero clock moment = λ j. not (int_le (pos 0 +ℤ moment) (pos (now clock (peak j))))

  reached-one : (coin : Coin) (condition : Condition) → Same (coin_id coin) → AllByRecursion SameReached (to_reach coin condition)
  reached-one coin (AssertSecondsRelative moment) same = (reached-birth Seconds (coin_id coin) moment same, tt)
  reached-one coin (AssertSecondsAbsolute moment) same = (reached-zero Seconds moment, tt)
  reached-one coin (AssertHeightRelative moment) same = (reached-birth Height (coin_id coin) moment same, tt)
  reached-one coin (AssertHeightAbsolute moment) same = (reached-zero Height moment, tt)
  reached-one coin _ same = tt

  ahead-one : (coin : Coin) (condition : Condition) → Same (coin_id coin) → AllByRecursion SameAhead (to_precede coin condition)
  ahead-one coin (AssertBeforeSecondsRelative moment) same = (ahead-birth Seconds (coin_id coin) moment same, tt)
  ahead-one coin (AssertBeforeSecondsAbsolute moment) same = (ahead-zero Seconds moment, tt)
  ahead-one coin (AssertBeforeHeightRelative moment) same = (ahead-birth Height (coin_id coin) moment same, tt)
  ahead-one coin (AssertBeforeHeightAbsolute moment) same = (ahead-zero Height moment, tt)
  ahead-one coin _ same = tt

  of-conditions : (P : Lock → Type 0) (given : Coin → Condition → List Lock) (coin : Coin) → ((condition : Condition) → AllByRecursion P (given coin condition))
      → (conditions : List Condition) → AllByRecursion P (flat_map (given coin) conditions)
  of-conditions P given coin each [] = tt
  of-conditions P given coin each (condition ∷ conditions) =
      all-append P (given coin condition) (flat_map (given coin) conditions) (each condition) (of-conditions P given coin each conditions)

  of-acts : (P : Lock → Type 0) (given : Coin → Condition → List Lock) → ((coin : Coin) (condition : Condition) → Same (coin_id coin) → AllByRecursion P (given coin condition))
      → (list : List Acts) → AllByRecursion Same (spent_ids list) → AllByRecursion P (of_list given list)
  of-acts P given each [] all = tt
  of-acts P given each (acts ∷ list) all =
      all-append P (of_spend given acts) (of_list given list) (of-conditions P given acts.coin (λ condition. each acts.coin condition all.0) acts.conditions) (of-acts P given each list all.1)

  there-too : (ids : List Hash32) → AllByRecursion Same ids → AllByRecursion (λ id. is_in_chain ledger id ≡ is_in_chain other id) ids
  there-too [] all = tt
  there-too (id ∷ ids) all = (ap is_some all.0, there-too ids all.1)

pub records-agree : RecordsAgree
records-agree ledger other list has = record {
  genesis = has.genesis;
  spent = has.spent;
  created = there-too ledger other has.peak (created_ids list) has.created;
  reached = of-acts ledger other has.peak (λ lock. is_reached ledger lock ≡ is_reached other lock) to_reach (reached-one ledger other has.peak) list has.spent;
  ahead = of-acts ledger other has.peak (λ lock. is_ahead ledger lock ≡ is_ahead other lock) to_precede (ahead-one ledger other has.peak) list has.spent;
}

all-asked : (ids : List Hash32) (pairs : List (Hash32 × ℕ)) (ledger : Ledger) (these : List Hash32) → list_all (is_among ids) these ≡ true → AllByRecursion (λ id. look_up (part_of ids pairs ledger) id ≡ look_up ledger id) these
all-asked ids pairs ledger [] asked = tt
all-asked ids pairs ledger (id ∷ these) asked =
    let parts = and_parts (is_among ids id) (list_all (is_among ids) these) asked in
    (suffices-ids ids pairs ledger id parts.0, all-asked ids pairs ledger these parts.1)

pub part-decides : PartDecides
part-decides terms ids pairs ledger list attested asked =
    let acts = map acts_of list in
    let parts = and_parts (list_all (is_among ids) (spent_ids acts)) (list_all (is_among ids) (created_ids acts)) (sym (list_all-append (is_among ids) (spent_ids acts) (created_ids acts)) ∙ asked) in
    looks-at-its-coins terms (part_of ids pairs ledger) ledger list attested
    (records-agree (part_of ids pairs ledger) ledger acts (record {
      genesis = refl;
      peak = refl;
      spent = all-asked ids pairs ledger (spent_ids acts) parts.0;
      created = all-asked ids pairs ledger (created_ids acts) parts.1;
    }))
