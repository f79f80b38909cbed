-- Blocks put on a sound chain's records and taken off again.
use Rattle.std.proofs.Common.{◌≡◌, ℕ, suc, ◌+◌, ◌<◌, ◌≤◌, ◌^◌, ◌-◌, Bool, true, false, ◌||◌, not, ◌&&◌, cond, List, [], ◌∷◌, ◌++◌, map, length, take, drop, Option, Some, None, refl, ap, sym, subst, ◌∙◌, append_assoc, arith}
use Rattle.std.specs.Prelude.{is_some, is_none}
use Rattle.std.specs.List.{list_all, list_any, IsDistinct, AllByRecursion}
use Rattle.std.proofs.lemmas.Bool.{false≢true, and_parts}
use Rattle.std.proofs.lemmas.Slice.Eq.{bytes_eq-Decides}
use Rattle.coin_facts.specs.declared.hash32.Hash32.{Hash32}
use Rattle.coin_facts.specs.CoinId.{coin_id}
use Rattle.coin_facts.specs.IdLists.{is_same_id, is_among}
use Rattle.chain_spec.specs.declared.chain.Record.{Record}
use Rattle.chain_spec.specs.Chain.{Ledger, Connected, Chain, look_up, is_in_chain, after_block, after_blocks, start_ledger, ledger_of, records_of, peak_of}
use Rattle.chain_spec.specs.Soundness.{CanConnect, CanFollow, IsSound, is_unspent, is_spendable}
use Rattle.chain_spec.specs.ChainLaws.{ids_of}
use Rattle.chain_spec.proofs.LookLaws.{same-id}
use Rattle.chain_spec.proofs.DistinctLaws.{records-apart}
use Rattle.chain_spec.proofs.MoveLaws.{ledger-grows}
use Rattle.chain_store.specs.RecordsView.{found_in, AreNew}
use Rattle.chain_store.specs.Blocks.{without_block, without_blocks, with_blocks, AreNewInTurn}
use Rattle.chain_store.proofs.MarkLaws.{taken-off}

-- ---- put on

pub can-be-new : (ledger : Ledger) (block : Connected) → CanConnect ledger block → AreNew ledger.records block.created
can-be-new ledger block can = record { once = can.created_once; new = can.new }

pub follow-new : (ledger : Ledger) (blocks : List Connected) → CanFollow ledger blocks → AreNewInTurn ledger.peak.height ledger.records blocks
follow-new ledger [] follow = tt
follow-new ledger (block ∷ blocks) follow = (can-be-new ledger block follow.0, follow-new (after_block ledger block) blocks follow.1)

pub after-with : (ledger : Ledger) (blocks : List Connected) → (after_blocks ledger blocks).records ≡ with_blocks ledger.peak.height blocks ledger.records
after-with ledger [] = refl
after-with ledger (block ∷ blocks) = after-with (after_block ledger block) blocks

-- ---- taken off

-- What a block spends of the records that were there before is unspent there.
some-spendable : (ledger : Ledger) (block : Connected) (ids : List Hash32) (id : Hash32) → list_all (is_spendable ledger block) ids ≡ true → is_among ids id ≡ true → is_spendable ledger block id ≡ true
some-spendable ledger block [] id all among = cc
some-spendable ledger block (first ∷ ids) id all among =
    let parts = and_parts (is_spendable ledger block first) (list_all (is_spendable ledger block) ids) all in
    by_test (is_same_id first id) refl among parts.0 (some-spendable ledger block ids id parts.1)
  where
    by_test : (is : Bool) → is_same_id first id ≡ is → (is || is_among ids id) ≡ true → is_spendable ledger block first ≡ true → (is_among ids id ≡ true → is_spendable ledger block id ≡ true) → is_spendable ledger block id ≡ true
    by_test true is e here more = ap (is_spendable ledger block) (sym (same-id first id is)) ∙ here
    by_test false is e here more = more e

not-created : (ledger : Ledger) (ids : List Hash32) (id : Hash32) (one : Record) → list_all (λ new. not (is_in_chain ledger new)) ids ≡ true → look_up ledger id ≡ Some one → is_among ids id ≡ false
not-created ledger [] id one new found = refl
not-created ledger (first ∷ ids) id one new found =
    let parts = and_parts (not (is_in_chain ledger first)) (list_all (λ other. not (is_in_chain ledger other)) ids) new in
    by_test (is_same_id first id) refl parts.0 (not-created ledger ids id one parts.1 found)
  where
    by_test : (is : Bool) → is_same_id first id ≡ is → not (is_in_chain ledger first) ≡ true → is_among ids id ≡ false → (is_same_id first id || is_among ids id) ≡ false
    by_test true is here more = absurd (false≢true (sym (ap (λ o. not (is_some o)) (ap (look_up ledger) (same-id first id is) ∙ found)) ∙ here))
    by_test false is here more = ap (λ b. b || is_among ids id) is ∙ more

was-unspent : (ledger : Ledger) (block : Connected) (one : Record) → CanConnect ledger block → look_up ledger (coin_id one.coin) ≡ Some one → is_among block.spent (coin_id one.coin) ≡ true → one.spent ≡ None
was-unspent ledger block one can found among =
    none (unspent (is_unspent (look_up ledger (coin_id one.coin))) (is_among (map coin_id block.created) (coin_id one.coin)) spendable created)
  where
    spendable : (is_unspent (look_up ledger (coin_id one.coin)) || is_among (map coin_id block.created) (coin_id one.coin)) ≡ true
    spendable = some-spendable ledger block block.spent (coin_id one.coin) can.spendable among

    created : is_among (map coin_id block.created) (coin_id one.coin) ≡ false
    created = not-created ledger (map coin_id block.created) (coin_id one.coin) one can.new found

    unspent : (a b : Bool) → (a || b) ≡ true → b ≡ false → a ≡ true
    unspent true b e apart = refl
    unspent false b e apart = absurd (false≢true (sym apart ∙ e))

    by_spent : (spent : Option ℕ) → is_none spent ≡ true → spent ≡ None
    by_spent None e = refl
    by_spent (Some n) e = cc

    none : is_unspent (look_up ledger (coin_id one.coin)) ≡ true → one.spent ≡ None
    none e = by_spent one.spent (sym (ap is_unspent found) ∙ e)

-- ---- each record is found by its id, where the ids are distinct

IsFoundIn : List Record → Record → Type 0
IsFoundIn list one = found_in list (coin_id one.coin) ≡ Some one

found-behind : (first : Record) (list more : List Record) → AllByRecursion (λ id. is_same_id (coin_id first.coin) id ≡ false) (ids_of more) → AllByRecursion (IsFoundIn list) more
    → AllByRecursion (IsFoundIn (first ∷ list)) more
unfolding IsFoundIn
found-behind first list [] apart found = tt
found-behind first list (one ∷ more) apart found =
    (ap (λ is. cond is (Some first) (found_in list (coin_id one.coin))) apart.0 ∙ found.0, found-behind first list more apart.1 found.1)

all-found : (list : List Record) → IsDistinct is_same_id (ids_of list) → AllByRecursion (IsFoundIn list) list
unfolding IsFoundIn IsDistinct
all-found [] apart = tt
all-found (one ∷ list) apart =
    let id = coin_id one.coin in
    let itself : is_same_id id id ≡ true = (bytes_eq-Decides id.bytes id.bytes).1 refl in
    (ap (λ is. cond is (Some one) (found_in list id)) itself, found-behind one list list apart.0 (all-found list apart.1))

were-unspent : (ledger : Ledger) (block : Connected) (list : List Record) → CanConnect ledger block → AllByRecursion (IsFoundIn ledger.records) list
    → AllByRecursion (λ one. is_among block.spent (coin_id one.coin) ≡ true → one.spent ≡ None) list
unfolding IsFoundIn
were-unspent ledger block [] can found = tt
were-unspent ledger block (one ∷ list) can found = (was-unspent ledger block one can found.0, were-unspent ledger block list can found.1)

pub block-off : (ledger : Ledger) (block : Connected) → CanConnect ledger block → IsDistinct is_same_id (ids_of ledger.records) → without_block block (after_block ledger block).records ≡ ledger.records
block-off ledger block can apart =
    taken-off (suc ledger.peak.height) block ledger.records (were-unspent ledger block ledger.records can (all-found ledger.records apart))

-- ---- chains

-- with more blocks
abbrev pub with_more : List Connected → Chain → Chain
with_more more chain = record chain { blocks = chain.blocks ++ more }

both-follow : (ledger : Ledger) (blocks more : List Connected) → CanFollow ledger (blocks ++ more) → CanFollow ledger blocks × CanFollow (after_blocks ledger blocks) more
both-follow ledger [] more follow = (tt, follow)
both-follow ledger (block ∷ blocks) more follow =
    let parts = both-follow (after_block ledger block) blocks more follow.1 in
    ((follow.0, parts.0), parts.1)

-- the blocks of a sound chain from some place on follow on those in front of it
pub sound-parts : (chain : Chain) (more : List Connected) → IsSound (with_more more chain) → IsSound chain × CanFollow (ledger_of chain) more
sound-parts chain more sound =
    let parts = both-follow (start_ledger chain) chain.blocks more sound.1 in
    ((sound.0, parts.0), parts.1)

after-both : (ledger : Ledger) (blocks more : List Connected) → after_blocks ledger (blocks ++ more) ≡ after_blocks (after_blocks ledger blocks) more
after-both ledger [] more = refl
after-both ledger (block ∷ blocks) more = after-both (after_block ledger block) blocks more

pub after-more : (chain : Chain) (more : List Connected) → ledger_of (with_more more chain) ≡ after_blocks (ledger_of chain) more
after-more chain more = after-both (start_ledger chain) chain.blocks more

pub more-on : (chain : Chain) (more : List Connected) → records_of (with_more more chain) ≡ with_blocks (peak_of chain).height more (records_of chain)
more-on chain more = ap (λ ledger. ledger.records) (after-more chain more) ∙ after-with (ledger_of chain) more

all-off : (chain : Chain) (more : List Connected) → IsSound (with_more more chain) → without_blocks more (after_blocks (ledger_of chain) more).records ≡ records_of chain
all-off chain [] sound = refl
all-off chain (block ∷ more) sound =
    let next = with_more (block ∷ []) chain in
    let parts = sound-parts chain (block ∷ more) sound in
    let grown = ledger-grows chain block in
    let same : with_more (block ∷ more) chain ≡ with_more more next = ap (λ blocks. record chain { blocks = blocks }) (sym (append_assoc chain.blocks (block ∷ []) more)) in
    ap (λ ledger. without_block block (without_blocks more (after_blocks ledger more).records)) (sym grown)
    ∙ ap (without_block block) (all-off next more (subst IsSound same sound))
    ∙ ap (λ ledger. without_block block ledger.records) grown
    ∙ block-off (ledger_of chain) block parts.1.0 (records-apart chain parts.0)

pub more-off : (chain : Chain) (more : List Connected) → IsSound (with_more more chain) → without_blocks more (records_of (with_more more chain)) ≡ records_of chain
more-off chain more sound = ap (λ ledger. without_blocks more ledger.records) (after-more chain more) ∙ all-off chain more sound
