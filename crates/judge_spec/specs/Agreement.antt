-- What a verdict looks at of a ledger, and the law that it looks at nothing else. Source: this project's own.
use Rattle.std.specs.Prelude.{◌≡◌, ℕ, ◌++◌, List, map, true}
use Rattle.std.specs.List.{AllByRecursion, list_all}
use Rattle.coin_facts.specs.declared.hash32.Hash32.{Hash32}
use Rattle.coin_facts.specs.IdLists.{is_among}
use Rattle.block_spec.specs.declared.spend.Spend.{Spend}
use Rattle.block_spec.specs.declared.attested.Signed.{Signed}
use Rattle.chain_spec.specs.Chain.{Ledger, look_up, is_in_chain}
use Rattle.chain_spec.specs.Looks.{part_of}
use Rattle.cond_spec.specs.Acts.{Acts, of_list, spent_ids, created_ids}
use Rattle.cond_spec.specs.Locks.{to_reach, to_precede}
use Rattle.judge_spec.specs.Facts.{Facts, acts_of}
use Rattle.judge_spec.specs.Locked.{is_reached, is_ahead}
use Rattle.judge_spec.specs.Checks.{Terms}
use Rattle.judge_spec.specs.Judgement.{spends_in, judgement, judgement_of_facts}
use Rattle.judge_spec.specs.JudgeLaws.{AreFound}

-- Two ledgers agree on a list of spends: they have one genesis data, the same records of its spent ids, or none of one, the
-- same of its created ids, and each of its time locks holds on both or on neither.
pub record AgreeOn (ledger other : Ledger) (list : List Acts) : Type 0 where
  pub genesis : ledger.genesis ≡ other.genesis
  pub spent : AllByRecursion (λ id. look_up ledger id ≡ look_up other id) (spent_ids list)
  pub created : AllByRecursion (λ id. is_in_chain ledger id ≡ is_in_chain other id) (created_ids list)
  pub reached : AllByRecursion (λ lock. is_reached ledger lock ≡ is_reached other lock) (of_list to_reach list)
  pub ahead : AllByRecursion (λ lock. is_ahead ledger lock ≡ is_ahead other lock) (of_list to_precede list)

-- A list has one verdict on ledgers that agree on it.
abbrev pub LooksAtItsCoins : Type 0
LooksAtItsCoins = (terms : Terms) (ledger other : Ledger) (list : List Facts) (attested : List Signed) → AgreeOn ledger other (map acts_of list) →
    judgement_of_facts terms ledger list attested ≡ judgement_of_facts terms other list attested

-- So has a list of spends, where the ledgers agree on what is found of these, if facts are found of them all.
abbrev pub SpendsLookAtTheirCoins : Type 0
SpendsLookAtTheirCoins = (terms : Terms) (ledger other : Ledger) (spends : List Spend) (attested : List Signed)
    → ((list : List Facts) → AreFound terms.limit list → spends_in list ≡ spends → AgreeOn ledger other (map acts_of list))
    → judgement terms ledger spends attested ≡ judgement terms other spends attested

-- Two ledgers have the same of a list of spends: genesis data, peak, and the records of its spent and created ids.
pub record HasSameRecords (ledger other : Ledger) (list : List Acts) : Type 0 where
  pub genesis : ledger.genesis ≡ other.genesis
  pub peak : ledger.peak ≡ other.peak
  pub spent : AllByRecursion (λ id. look_up ledger id ≡ look_up other id) (spent_ids list)
  pub created : AllByRecursion (λ id. look_up ledger id ≡ look_up other id) (created_ids list)

-- Then they agree on it, since its locks look at nothing else.
abbrev pub RecordsAgree : Type 0
RecordsAgree = (ledger other : Ledger) (list : List Acts) → HasSameRecords ledger other list → AgreeOn ledger other list

-- So a part of a ledger gives the verdict of the whole, where it was asked for the ids that a list spends and creates.
abbrev pub PartDecides : Type 0
PartDecides = (terms : Terms) (ids : List Hash32) (pairs : List (Hash32 × ℕ)) (ledger : Ledger) (list : List Facts) (attested : List Signed)
    → list_all (is_among ids) (spent_ids (map acts_of list) ++ created_ids (map acts_of list)) ≡ true
    → judgement_of_facts terms (part_of ids pairs ledger) list attested ≡ judgement_of_facts terms ledger list attested
