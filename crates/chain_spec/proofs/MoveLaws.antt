-- Chains and records after connects and undos.
use Rattle.std.proofs.Common.{◌≡◌, ℕ, ◌+◌, ◌-◌, false, List, [], ◌∷◌, ◌++◌, map, length, take, drop, refl, ap, sym, ◌∙◌, subst, append_assoc, arith}
use Rattle.std.specs.Prelude.{reverse}
use Rattle.std.specs.List.{IsDistinct, flat_map}
use Rattle.std.proofs.lemmas.Bool.{or_parts, or_from}
use Rattle.std.proofs.lemmas.List.{map-append, append-nil, reverse-append, take-append-drop, drop_at}
use Rattle.std.proofs.lemmas.List.Concat.{flat_map-append}
use Rattle.std.proofs.lemmas.List.Folds.{list_any-append}
use Rattle.coin_facts.specs.declared.hash32.Hash32.{Hash32}
use Rattle.coin_facts.specs.CoinId.{coin_id}
use Rattle.coin_facts.specs.IdLists.{is_same_id, is_among}
use Rattle.chain_spec.specs.Chain.{Ledger, Connected, Chain, look_up, is_in_chain, touched_by, start_record, after_block, after_blocks, start_ledger, ledger_of}
use Rattle.chain_spec.specs.Soundness.{HasDistinctIds, CanConnect, CanFollow, IsSound}
use Rattle.chain_spec.specs.StoreViews.{StoreView, started, connected, without_last}
use Rattle.chain_spec.specs.ChangeLaws.{LedgerGrows, ConnectedIsSound, StartedIsSound, HeightIsBlocks, UndoneIsSound, Move, Connects, Undoes, moved, after_moves, changed_since, ChangesGrow, ChangesTell}
use Rattle.chain_spec.specs.ChainLaws.{ids_of}
use Rattle.chain_spec.proofs.DistinctLaws.{ids-made, not-found, distinct-append}
use Rattle.chain_spec.proofs.LookLaws.{untouched}

-- ---- chains

after-both : (ledger : Ledger) (blocks more : List Connected) → after_blocks ledger (blocks ++ more) ≡ after_blocks (after_blocks ledger blocks) more
after-both ledger [] more = refl
after-both ledger (block ∷ blocks) more = after-both (after_block ledger block) blocks more

pub ledger-grows : LedgerGrows
ledger-grows chain block = after-both (start_ledger chain) chain.blocks (block ∷ [])

follow-one : (ledger : Ledger) (blocks : List Connected) (block : Connected) → CanFollow ledger blocks → CanConnect (after_blocks ledger blocks) block → CanFollow ledger (blocks ++ block ∷ [])
follow-one ledger [] block follow can = (can, tt)
follow-one ledger (first ∷ blocks) block follow can = (follow.0, follow-one (after_block ledger first) blocks block follow.1 can)

pub connected-is-sound : ConnectedIsSound
connected-is-sound chain block sound can = (sound.0, follow-one (start_ledger chain) chain.blocks block sound.1 can)

-- A chain without blocks is sound where the ids of its coins are distinct.
sound-start : (chain : Chain) (blocks : List Connected) → blocks ≡ [] → chain.blocks ≡ blocks → HasDistinctIds chain.coins → IsSound chain
sound-start chain blocks none are distinct = (distinct, subst (CanFollow (start_ledger chain)) (sym (are ∙ none)) tt)

pub alone : (id : Hash32) → IsDistinct is_same_id (id ∷ [])
unfolding IsDistinct
alone id = (tt, tt)

pub started-is-sound : StartedIsSound
started-is-sound view coin none sound new =
    let chain = view.chain in
    let records = map (start_record chain.seconds) chain.coins in
    let ids = map coin_id chain.coins in
    let id = coin_id coin in
    let start : ledger_of chain ≡ start_ledger chain = ap (after_blocks (start_ledger chain)) none in
    let absent : is_among (ids_of records) id ≡ false = not-found id records (ap (λ ledger. is_in_chain ledger id) (sym start) ∙ new) in
    let apart : is_among ids id ≡ false = ap (λ ids. is_among ids id) (sym (ids-made 0 chain.seconds chain.coins)) ∙ absent in
    sound-start (started coin view).chain chain.blocks none refl
    (subst (IsDistinct is_same_id) (sym (map-append coin_id chain.coins (coin ∷ []))) (distinct-append ids (id ∷ []) sound.0 (alone id) (apart, tt)))

height-after : (ledger : Ledger) (blocks : List Connected) → (after_blocks ledger blocks).peak.height ≡ ledger.peak.height + length blocks
height-after ledger [] = omega arith
height-after ledger (block ∷ blocks) = height-after (after_block ledger block) blocks ∙ omega arith

pub height-is-blocks : HeightIsBlocks
height-is-blocks chain = height-after (start_ledger chain) chain.blocks ∙ omega arith

follow-first : (ledger : Ledger) (blocks more : List Connected) → CanFollow ledger (blocks ++ more) → CanFollow ledger blocks
follow-first ledger [] more follow = tt
follow-first ledger (block ∷ blocks) more follow = (follow.0, follow-first (after_block ledger block) blocks more follow.1)

pub undone-is-sound : UndoneIsSound
undone-is-sound view count sound =
    let blocks = view.chain.blocks in
    let kept = length blocks - count in (
      sound.0,
      follow-first (start_ledger view.chain) (take kept blocks) (drop kept blocks)
          (subst (CanFollow (start_ledger view.chain)) (sym (take-append-drop kept blocks)) sound.1),
    )

-- ---- what was touched

in-both : (ids others : List Hash32) (id : Hash32) → is_among (ids ++ others) id ≡ false → (is_among ids id ≡ false) × (is_among others id ≡ false)
in-both ids others id e =
    or_parts (is_among ids id) (is_among others id) (sym (list_any-append (λ other. is_same_id other id) ids others) ∙ e)

after-untouched : (ledger : Ledger) (blocks : List Connected) (id : Hash32) → is_among (flat_map touched_by blocks) id ≡ false → look_up (after_blocks ledger blocks) id ≡ look_up ledger id
after-untouched ledger [] id apart = refl
after-untouched ledger (block ∷ blocks) id apart =
    let parts = in-both (touched_by block) (flat_map touched_by blocks) id apart in
    after-untouched (after_block ledger block) blocks id parts.1 ∙ untouched ledger block id parts.0

other-way : (blocks : List Connected) (id : Hash32) → is_among (flat_map touched_by (reverse blocks)) id ≡ false → is_among (flat_map touched_by blocks) id ≡ false
other-way [] id e = refl
other-way (block ∷ blocks) id e =
    let behind = flat_map touched_by (reverse blocks) in
    let one = flat_map touched_by (reverse (block ∷ [])) in
    let turned : flat_map touched_by (reverse (block ∷ blocks)) ≡ behind ++ one =
    ap (flat_map touched_by) (reverse-append (block ∷ []) blocks) ∙ flat_map-append touched_by (reverse blocks) (reverse (block ∷ [])) in
    let parts = in-both behind one id (ap (λ ids. is_among ids id) (sym turned) ∙ e) in
    let first = (in-both (touched_by block) [] id parts.1).0 in
    list_any-append (λ other. is_same_id other id) (touched_by block) (flat_map touched_by blocks)
    ∙ or_from (is_among (touched_by block) id) (is_among (flat_map touched_by blocks) id) first (other-way blocks id parts.0)

-- what the later of two views tells of the earlier
record Tells (view later : StoreView) : Type 0 where
  added : List Hash32
  grown : later.changes ≡ view.changes ++ added
  same : (id : Hash32) → is_among added id ≡ false → look_up (ledger_of later.chain) id ≡ look_up (ledger_of view.chain) id

tells-connect : (view : StoreView) (block : Connected) → Tells view (connected block view)
tells-connect view block = record {
  added = touched_by block;
  grown = refl;
  same = λ id apart. ap (λ ledger. look_up ledger id) (ledger-grows view.chain block) ∙ untouched (ledger_of view.chain) block id apart;
}

tells-undo : (view : StoreView) (count : ℕ) → Tells view (without_last count view)
tells-undo view count =
    let blocks = view.chain.blocks in
    let kept = length blocks - count in
    let before = after_blocks (start_ledger view.chain) (take kept blocks) in
    let whole : after_blocks before (drop kept blocks) ≡ ledger_of view.chain =
    sym (after-both (start_ledger view.chain) (take kept blocks) (drop kept blocks)) ∙ ap (after_blocks (start_ledger view.chain)) (take-append-drop kept blocks) in
    record {
      added = flat_map touched_by (reverse (drop kept blocks));
      grown = refl;
      same = λ id apart. sym (after-untouched before (drop kept blocks) id (other-way (drop kept blocks) id apart)) ∙ ap (λ ledger. look_up ledger id) whole;
    }

tells-move : (view : StoreView) (move : Move) → Tells view (moved view move)
tells-move view (Connects block) = tells-connect view block
tells-move view (Undoes count) = tells-undo view count

tells-both : (view next later : StoreView) → Tells view next → Tells next later → Tells view later
tells-both view next later one two = record {
  added = one.added ++ two.added;
  grown = two.grown ∙ ap (λ ids. ids ++ two.added) one.grown ∙ append_assoc view.changes one.added two.added;
  same = λ id apart. let parts = in-both one.added two.added id apart in two.same id parts.1 ∙ one.same id parts.0;
}

tells : (view : StoreView) (moves : List Move) → Tells view (after_moves view moves)
tells view [] = record { added = []; grown = sym (append-nil view.changes); same = λ id apart. refl }
tells view (move ∷ moves) = tells-both view (moved view move) (after_moves (moved view move) moves) (tells-move view move) (tells (moved view move) moves)

since : (view later : StoreView) (told : Tells view later) → changed_since (length view.changes) later ≡ told.added
since view later told = ap (drop (length view.changes)) told.grown ∙ drop_at view.changes told.added (length view.changes) refl

pub changes-grow : ChangesGrow
changes-grow view moves =
    let told = tells view moves in
    told.grown ∙ ap (λ ids. view.changes ++ ids) (sym (since view (after_moves view moves) told))

pub changes-tell : ChangesTell
changes-tell view moves id apart =
    let told = tells view moves in
    told.same id (ap (λ ids. is_among ids id) (sym (since view (after_moves view moves) told)) ∙ apart)
