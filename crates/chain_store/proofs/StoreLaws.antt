-- A store's parts stay in order with each call, and show what the definitions say.
use Rattle.std.proofs.Common.{◌≡◌, ℕ, zero, suc, ◌+◌, ◌-◌, ◌<◌, ◌≤◌, List, [], ◌∷◌, ◌++◌, length, take, drop, map, Option, None, Some, false, refl, ap, sym, subst, ◌∙◌, add-one, take-take, take_all, take_at, length-take-le, arith}
use Rattle.std.proofs.Math.Seq.{take-nil, drop-nil}
use Rattle.std.specs.Prelude.{reverse, slice_range, option_map, IfSome}
use Rattle.std.specs.List.{flat_map, sum_by, IsDistinct}
use Rattle.std.proofs.lemmas.List.{map-append, length-append}
use Rattle.coin_facts.specs.declared.hash32.Hash32.{Hash32}
use Rattle.coin_facts.specs.declared.coin.Coin.{Coin}
use Rattle.coin_facts.specs.CoinId.{coin_id}
use Rattle.chain_spec.specs.Chain.{Connected, Chain, made_at, start_record, with_block, touched_by, is_in_chain, start_ledger, after_blocks, ledger_of, records_of, peak_of}
use Rattle.chain_spec.specs.Soundness.{CanConnect, IsSound}
use Rattle.chain_spec.specs.StoreViews.{StoreView, started, connected, reverted, reverted_to}
use Rattle.chain_spec.proofs.MoveLaws.{ledger-grows, connected-is-sound, started-is-sound}
use Rattle.chain_store.specs.declared.store.Before.{Before}
use Rattle.chain_store.specs.RecordsView.{RecordsView}
use Rattle.chain_store.specs.Blocks.{created_count, without_blocks, moved, back_to}
use Rattle.chain_store.specs.Inside.{Parts, chain_of, chain_to, state_at, seen, IsInOrder}
use Rattle.chain_store.proofs.MarkLaws.{drop-all}
use Rattle.chain_store.proofs.OrderLaws.{sound-to, peak-height, span-drop, span-off, moved-between}

no-room : (count : ℕ) (blocks : List Connected) → drop count blocks ≡ [] → (room : ℕ) → sum_by created_count (drop count blocks) ≤ room
no-room count blocks none room = let sum : sum_by created_count (drop count blocks) ≡ 0 = ap (sum_by created_count) none in omega (arith, sum)

-- what a call leaves: the parts in order, and what they show
pub record Leaves (parts : Parts) (view : StoreView) : Type 0 where
  pub held : IsInOrder parts
  pub shows : seen parts ≡ view

module _ (parts : Parts) (held : IsInOrder parts) where
  -- ---- more room

  abbrev pub with_room : ℕ → Parts
  with_room room = record parts { records = record { list = parts.records.list; room = room } }

  pub roomier : (room : ℕ) → parts.records.room ≤ room → IsInOrder (with_room room)
  roomier room more = record {
    sound = held.sound;
    records = held.records;
    height = held.height;
    room = let before = held.room in omega (arith, before);
    before = held.before;
  }

  -- ---- a block more

  abbrev pub entered : Connected → ℕ → Parts
  entered block room = record parts {
    blocks = take parts.height parts.blocks ++ block ∷ [];
    height = parts.height + 1;
    records = record { list = with_block (parts.height + 1) block parts.records.list; room = room };
    changes = parts.changes ++ touched_by block;
    before = Some (record { height = parts.height; changes = length parts.changes });
  }

  pub entered-leaves : (block : Connected) (room : ℕ) → CanConnect (ledger_of (chain_to parts parts.height)) block → Leaves (entered block room) (connected block (seen parts))
  entered-leaves block room can =
      let height = parts.height in
      let kept = take height parts.blocks in
      let blocks = kept ++ block ∷ [] in
      let kept_length : length kept ≡ height = length-take-le height parts.blocks held.height in
      let long : length blocks ≡ height + 1 = length-append kept (block ∷ []) ∙ ap (λ n. n + 1) kept_length in
      let whole : take (height + 1) blocks ≡ blocks = take_all (height + 1) blocks (omega (arith, long)) in
      let front : take height blocks ≡ kept = take_at kept (block ∷ []) height kept_length in
      let next : height + 1 ≡ suc (peak_of (chain_to parts height)).height = add-one height ∙ ap suc (sym (peak-height parts held height held.height)) in
      record {
        held = record {
          sound = connected-is-sound (chain_to parts height) block (sound-to parts held height) can;
          records =
              ap (λ n. with_block n block parts.records.list) next
              ∙ ap (with_block (suc (peak_of (chain_to parts height)).height) block) held.records
              ∙ ap (λ ledger. ledger.records) (sym (ledger-grows (chain_to parts height) block))
              ∙ ap (λ list. records_of (chain_of parts list)) (sym whole);
          height = omega (arith, long);
          room = no-room (height + 1) blocks (drop-all (height + 1) blocks (omega (arith, long))) room;
          before = omega (arith, long);
        };
        shows = λ j. record {
          chain = chain_of parts (whole j);
          changes = parts.changes ++ touched_by block;
          before = Some (chain_of parts (front j), take_at parts.changes (touched_by block) (length parts.changes) refl j);
        };
      }

  -- ---- the last blocks taken off

  abbrev pub backed : ℕ → ℕ → Parts
  backed kept room = record parts {
    blocks = take parts.height parts.blocks;
    height = kept;
    records = record { list = without_blocks (slice_range parts.blocks kept parts.height) parts.records.list; room = room };
    changes = parts.changes ++ flat_map touched_by (reverse (slice_range parts.blocks kept parts.height));
    before = Some (record { height = parts.height; changes = length parts.changes });
  }

  pub backed-leaves : (kept room : ℕ) → kept ≤ parts.height → sum_by created_count (slice_range parts.blocks kept parts.height) ≤ room
      → Leaves (backed kept room) (back_to kept (seen parts))
  backed-leaves kept room le enough =
      let height = parts.height in
      let blocks = take height parts.blocks in
      let long : length blocks ≡ height = length-take-le height parts.blocks held.height in
      let span : slice_range parts.blocks kept height ≡ drop kept blocks = span-drop kept height parts.blocks le in
      let ids = flat_map touched_by (reverse (slice_range parts.blocks kept height)) in
      record {
        held = record {
          sound = sound-to parts held height;
          records =
              ap (without_blocks (slice_range parts.blocks kept height)) held.records
              ∙ span-off parts held kept height le
              ∙ ap (λ list. records_of (chain_of parts list)) (sym (take-take kept height parts.blocks le));
          height = omega (arith, long);
          room = let same : sum_by created_count (slice_range parts.blocks kept height) ≡ sum_by created_count (drop kept blocks) = ap (sum_by created_count) span in omega (arith, same, enough);
          before = omega (arith, long);
        };
        shows = λ j. record {
          chain = chain_of parts (take kept blocks);
          changes = parts.changes ++ flat_map touched_by (reverse (span j));
          before = Some (chain_of parts (take-take height height parts.blocks (omega arith) j), take_at parts.changes ids (length parts.changes) refl j);
        };
      }

  -- ---- back to what was before

  abbrev pub gone_back : Before → ℕ → Parts
  gone_back before room = record parts {
    blocks = take before.height parts.blocks;
    height = before.height;
    records = record { list = moved parts.height before.height parts.blocks parts.records.list; room = room };
    changes = take before.changes parts.changes;
    before = None;
  }

  pub was-within : (before : Before) → parts.before ≡ Some before → before.height ≤ length parts.blocks
  was-within before is = let P : Option Before → Type 0 = λ o. IfSome o (λ b. b.height ≤ length parts.blocks) in subst P is held.before

  pub gone-back-leaves : (before : Before) (room : ℕ) → parts.before ≡ Some before → Leaves (gone_back before room) (reverted (seen parts))
  gone-back-leaves before room is =
      let height = before.height in
      let within = was-within before is in
      let blocks = take height parts.blocks in
      let long : length blocks ≡ height = length-take-le height parts.blocks within in
      let same : take height blocks ≡ blocks = take-take height height parts.blocks (omega arith) in
      record {
        held = record {
          sound = sound-to parts held height;
          records =
              ap (moved parts.height height parts.blocks) held.records
              ∙ moved-between parts held parts.height height held.height
              ∙ ap (λ list. records_of (chain_of parts list)) (sym same);
          height = omega (arith, long);
          room = no-room height blocks (drop-all height blocks (omega (arith, long))) room;
          before = tt;
        };
        shows =
            (λ j. record { chain = chain_of parts (same j); changes = take before.changes parts.changes; before = None })
            ∙ sym (ap (λ o. reverted_to (seen parts) (option_map (state_at parts) o)) is);
      }

  pub nothing-before : parts.before ≡ None → seen parts ≡ reverted (seen parts)
  nothing-before is = sym (ap (λ o. reverted_to (seen parts) (option_map (state_at parts) o)) is)

  -- ---- a start coin more

  abbrev pub begun : Coin → ℕ → Parts
  begun coin room = record parts {
    coins = parts.coins ++ coin ∷ [];
    blocks = [];
    records = record { list = parts.records.list ++ made_at 0 parts.seconds coin ∷ []; room = room };
    before = None;
  }

  pub begun-leaves : (coin : Coin) (room : ℕ) → (seen parts).chain.blocks ≡ [] → is_in_chain (ledger_of (seen parts).chain) (coin_id coin) ≡ false
      → Leaves (begun coin room) (started coin (seen parts))
  begun-leaves coin room first new =
      let height = parts.height in
      let none : take height [] ≡ [] = take-nil height in
      let long : length (take height parts.blocks) ≡ height = length-take-le height parts.blocks held.height in
      let zero_length : length (take height parts.blocks) ≡ 0 = ap length first in
      let chain : List Connected → Chain = λ blocks. record { genesis = parts.genesis; seconds = parts.seconds; coins = parts.coins ++ coin ∷ []; blocks = blocks } in
      let old : parts.records.list ≡ map (start_record parts.seconds) parts.coins =
      held.records ∙ ap (λ blocks. records_of (chain_of parts blocks)) first in
      record {
        held = record {
          sound = subst (λ blocks. IsSound (chain blocks)) first (started-is-sound (seen parts) coin first (sound-to parts held height) new);
          records =
              ap (λ list. list ++ made_at 0 parts.seconds coin ∷ []) old
              ∙ sym (map-append (start_record parts.seconds) parts.coins (coin ∷ []))
              ∙ ap (λ blocks. records_of (chain blocks)) (sym none);
          height = omega (arith, long, zero_length);
          room = no-room height [] (drop-nil height) room;
          before = tt;
        };
        shows = λ j. record { chain = chain ((none ∙ sym first) j); changes = parts.changes; before = None };
      }

-- ---- a chain without coins

abbrev pub opened : Hash32 → ℕ → ℕ → Parts
opened genesis seconds room = record {
  genesis = genesis;
  seconds = seconds;
  coins = [];
  blocks = [];
  height = 0;
  records = record { list = []; room = room };
  changes = [];
  before = None;
}

pub opened-holds : (genesis : Hash32) (seconds room : ℕ) → IsInOrder (opened genesis seconds room)
unfolding IsDistinct
opened-holds genesis seconds room = record { sound = (tt, tt); records = refl; height = omega arith; room = no-room 0 [] refl room; before = tt }
