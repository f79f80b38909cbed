-- A store's parts in order: what is known of its chain at each height.
use Rattle.std.proofs.Common.{◌≡◌, ℕ, suc, ◌+◌, ◌-◌, ◌<◌, ◌≤◌, ◌^◌, List, [], ◌∷◌, ◌++◌, length, take, drop, Bool, true, false, cond, refl, ap, sym, subst, ◌∙◌, take-add, take-take, length-take-le, arith}
use Rattle.std.proofs.lemmas.Bool.{ltb-true, ltb-false}
use Rattle.std.specs.Prelude.{nat_lt, slice_range}
use Rattle.std.specs.List.{IsDistinct}
use Rattle.std.proofs.lemmas.List.{take-append-drop, drop-take}
use Rattle.coin_facts.specs.IdLists.{is_same_id}
use Rattle.chain_spec.specs.declared.chain.Peak.{Peak}
use Rattle.chain_spec.specs.Chain.{Ledger, Connected, Chain, after_block, after_blocks, start_ledger, ledger_of, records_of, peak_of}
use Rattle.chain_spec.specs.Soundness.{CanConnect, CanFollow, IsSound}
use Rattle.chain_spec.specs.ChainLaws.{ids_of}
use Rattle.chain_spec.proofs.DistinctLaws.{records-apart}
use Rattle.chain_spec.proofs.MoveLaws.{ledger-grows, height-is-blocks}
use Rattle.chain_store.specs.Blocks.{without_blocks, with_blocks, moved, AreNewInTurn}
use Rattle.chain_store.specs.Inside.{Parts, chain_of, chain_to, seen, IsInOrder}
use Rattle.chain_store.proofs.ChainSteps.{with_more, follow-new, sound-parts, more-on, more-off}

-- ---- a chain's height

follow-height : (ledger : Ledger) (blocks : List Connected) → CanFollow ledger blocks → ledger.peak.height < 2 ^ 32 → ledger.peak.height + length blocks < 2 ^ 32
follow-height ledger [] follow below = omega arith
follow-height ledger (block ∷ blocks) follow below =
    let room = follow.0.room in
    let behind = follow-height (after_block ledger block) blocks follow.1 (omega (arith, room)) in
    omega (arith, behind)

pub height-fits : (chain : Chain) → IsSound chain → length chain.blocks < 2 ^ 32
height-fits chain sound =
    let fits = follow-height (start_ledger chain) chain.blocks sound.1 (omega arith) in omega (arith, fits)

-- the peak behind a last block
abbrev pub peak_behind : Chain → Connected → Peak
peak_behind chain block = record { height = length chain.blocks; hash = block.hash; seconds = block.seconds }

pub last-peak : (chain : Chain) (first : List Connected) (block : Connected) → chain.blocks ≡ first ++ block ∷ [] → peak_of chain ≡ peak_behind chain block
last-peak chain first block are =
    let before : Chain = record chain { blocks = first } in
    let whole : peak_of chain ≡ (after_block (ledger_of before) block).peak =
    ap (λ blocks. peak_of (record chain { blocks = blocks })) are ∙ ap (λ ledger. ledger.peak) (ledger-grows before block) in
    let height : suc (peak_of before).height ≡ length chain.blocks = ap (λ peak. peak.height) (sym whole) ∙ height-is-blocks chain in
    whole ∙ ap (λ n. record { height = n; hash = block.hash; seconds = block.seconds }) height

genesis-after : (ledger : Ledger) (blocks : List Connected) → (after_blocks ledger blocks).genesis ≡ ledger.genesis
genesis-after ledger [] = refl
genesis-after ledger (block ∷ blocks) = genesis-after (after_block ledger block) blocks

pub genesis-stays : (chain : Chain) → (ledger_of chain).genesis ≡ chain.genesis
genesis-stays chain = genesis-after (start_ledger chain) chain.blocks

-- ---- parts in order

pub take-span : {A : Type 0} (n m : ℕ) (list : List A) → n ≤ m → take n list ++ slice_range list n m ≡ take m list
take-span n m list le =
    let whole : n + (m - n) ≡ m = omega arith in
    sym (take-add n (m - n) list) ∙ ap (λ k. take k list) whole

pub span-drop : {A : Type 0} (n m : ℕ) (list : List A) → n ≤ m → slice_range list n m ≡ drop n (take m list)
span-drop n m list le =
    let whole : n + (m - n) ≡ m = omega arith in
    sym (drop-take n (m - n) list) ∙ ap (λ k. drop n (take k list)) whole

module _ (parts : Parts) (held : IsInOrder parts) where
  pub sound-to : (height : ℕ) → IsSound (chain_to parts height)
  sound-to height =
      let blocks = parts.blocks in
      let whole : chain_of parts blocks ≡ with_more (drop height blocks) (chain_to parts height) =
      ap (chain_of parts) (sym (take-append-drop height blocks)) in
      (sound-parts (chain_to parts height) (drop height blocks) (subst IsSound whole held.sound)).0

  pub apart-to : (height : ℕ) → IsDistinct is_same_id (ids_of (records_of (chain_to parts height)))
  apart-to height = records-apart (chain_to parts height) (sound-to height)

  pub few-blocks : length parts.blocks < 2 ^ 32
  few-blocks = height-fits (chain_of parts parts.blocks) held.sound

  pub peak-height : (height : ℕ) → height ≤ length parts.blocks → (peak_of (chain_to parts height)).height ≡ height
  peak-height height le = height-is-blocks (chain_to parts height) ∙ length-take-le height parts.blocks le

  chain-span : (n m : ℕ) → n ≤ m → with_more (slice_range parts.blocks n m) (chain_to parts n) ≡ chain_to parts m
  chain-span n m le = ap (chain_of parts) (take-span n m parts.blocks le)

  pub span-follows : (n m : ℕ) → n ≤ m → CanFollow (ledger_of (chain_to parts n)) (slice_range parts.blocks n m)
  span-follows n m le =
      (sound-parts (chain_to parts n) (slice_range parts.blocks n m) (subst IsSound (sym (chain-span n m le)) (sound-to m))).1

  pub span-is-new : (n m : ℕ) → n ≤ length parts.blocks → n ≤ m → AreNewInTurn n (records_of (chain_to parts n)) (slice_range parts.blocks n m)
  span-is-new n m within le =
      subst (λ below. AreNewInTurn below (records_of (chain_to parts n)) (slice_range parts.blocks n m)) (peak-height n within)
      (follow-new (ledger_of (chain_to parts n)) (slice_range parts.blocks n m) (span-follows n m le))

  span-on : (n m : ℕ) → n ≤ length parts.blocks → n ≤ m → with_blocks n (slice_range parts.blocks n m) (records_of (chain_to parts n)) ≡ records_of (chain_to parts m)
  span-on n m within le =
      ap (λ below. with_blocks below (slice_range parts.blocks n m) (records_of (chain_to parts n))) (sym (peak-height n within))
      ∙ sym (more-on (chain_to parts n) (slice_range parts.blocks n m))
      ∙ ap records_of (chain-span n m le)

  pub span-off : (n m : ℕ) → n ≤ m → without_blocks (slice_range parts.blocks n m) (records_of (chain_to parts m)) ≡ records_of (chain_to parts n)
  span-off n m le =
      ap (λ chain. without_blocks (slice_range parts.blocks n m) (records_of chain)) (sym (chain-span n m le))
      ∙ more-off (chain_to parts n) (slice_range parts.blocks n m) (subst IsSound (sym (chain-span n m le)) (sound-to m))

  -- from the records at one height to those at another
  pub moved-between : (n m : ℕ) → n ≤ length parts.blocks → moved n m parts.blocks (records_of (chain_to parts n)) ≡ records_of (chain_to parts m)
  moved-between n m within = by_test (nat_lt m n) refl
    where
      by_test : (below : Bool) → nat_lt m n ≡ below → moved n m parts.blocks (records_of (chain_to parts n)) ≡ records_of (chain_to parts m)
      by_test true is =
          let lt : m < n = ltb-true m n is in
          ap (λ b. cond b (without_blocks (slice_range parts.blocks m n) (records_of (chain_to parts n))) (with_blocks n (slice_range parts.blocks n m) (records_of (chain_to parts n)))) is
          ∙ span-off m n (omega arith)
      by_test false is =
          let le : n ≤ m = ltb-false m n is in
          ap (λ b. cond b (without_blocks (slice_range parts.blocks m n) (records_of (chain_to parts n))) (with_blocks n (slice_range parts.blocks n m) (records_of (chain_to parts n)))) is
          ∙ span-on n m within le
