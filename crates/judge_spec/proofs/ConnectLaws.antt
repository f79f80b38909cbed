-- An accepted block can be connected.
use Rattle.std.proofs.Common.{◌≡◌, ℕ, suc, ◌-◌, ◌^◌, ◌<◌, ◌==◌, ◌&&◌, ◌||◌, not, Bool, true, false, nat_lt, None, List, [], ◌∷◌, ◌++◌, map, refl, ap, sym, ◌∙◌, subst, arith}
use Rattle.std.specs.Prelude.{option_to_list}
use Rattle.std.specs.List.{IsDistinct, list_all}
use Rattle.std.proofs.lemmas.Bool.{and_parts, and_from, or_parts, or_left, not-true, not_from_false, eqb-true}
use Rattle.std.proofs.lemmas.List.{append-nil, map-append}
use Rattle.std.proofs.lemmas.List.Folds.{list_all-append, list_any-append}
use Rattle.coin_facts.specs.declared.hash32.Hash32.{Hash32}
use Rattle.coin_facts.specs.declared.coin.Coin.{Coin}
use Rattle.coin_facts.specs.CoinId.{coin_id}
use Rattle.coin_facts.specs.Steps.{when}
use Rattle.coin_facts.specs.IdLists.{is_same_id, is_among}
use Rattle.block_spec.specs.declared.block.Block.{Block}
use Rattle.chain_spec.specs.declared.chain.Peak.{Peak}
use Rattle.chain_spec.specs.Chain.{Ledger, look_up, is_in_chain, ledger_of}
use Rattle.chain_spec.specs.Soundness.{HasDistinctIds, is_unspent, is_spendable}
use Rattle.chain_spec.proofs.DistinctLaws.{distinct-append}
use Rattle.chain_spec.proofs.MoveLaws.{alone, connected-is-sound}
use Rattle.cond_spec.specs.Acts.{spent_ids, created_coins, created_ids}
use Rattle.judge_spec.specs.declared.rule.Rule.TheVariants.{NotNext, NotLater}
use Rattle.judge_spec.specs.Facts.{acts_of}
use Rattle.judge_spec.specs.Judgement.{Fine, unless_broken, judgement, judgement_of_facts}
use Rattle.judge_spec.specs.BlockJudgement.{follows, not_next, not_later, reward_coin, is_rewarded, with_reward, connected_block}
use Rattle.judge_spec.specs.FineLaws.{is_held}
use Rattle.judge_spec.specs.ConnectLaws.{FineConnects, FineStaysSound}
use Rattle.judge_spec.proofs.FactLaws.{facts-decide}
use Rattle.judge_spec.proofs.FineLaws.{unbroken}
use Rattle.judge_spec.proofs.FineCoins.{fine-is-spendable}

-- ---- the reward coin

-- coins of distinct ids that aren't in the chain
record AreNew (ledger : Ledger) (coins : List Coin) : Type 0 where
  once : HasDistinctIds coins
  new : list_all (λ id. not (is_in_chain ledger id)) (map coin_id coins) ≡ true

new-one : (ledger : Ledger) (coins : List Coin) (coin : Coin) → AreNew ledger coins → (is_in_chain ledger (coin_id coin) || is_among (map coin_id coins) (coin_id coin)) ≡ false → AreNew ledger (coins ++ coin ∷ [])
new-one ledger coins coin are absent =
    let ids = map coin_id coins in
    let id = coin_id coin in
    let is_new : Hash32 → Bool = λ other. not (is_in_chain ledger other) in
    let parts = or_parts (is_in_chain ledger id) (is_among ids id) absent in
    let split = sym (map-append coin_id coins (coin ∷ [])) in
    record {
      once = subst (IsDistinct is_same_id) split (distinct-append ids (id ∷ []) are.once (alone id) (parts.1, tt));
      new =
          subst (λ all. list_all is_new all ≡ true) split
          (list_all-append is_new ids (id ∷ []) ∙ and_from (list_all is_new ids) (is_new id && true) are.new (and_from (is_new id) true (not_from_false (is_in_chain ledger id) parts.0) refl));
    }

new-rewarded : (reward : ℕ) (ledger : Ledger) (block : Block) (coins : List Coin) → AreNew ledger coins → AreNew ledger (with_reward reward ledger block coins)
new-rewarded reward ledger block coins are = by_reward (is_rewarded reward ledger block coins) refl
  where
    by_reward : (made : Bool) → is_rewarded reward ledger block coins ≡ made → AreNew ledger (coins ++ option_to_list (when made (reward_coin reward block)))
    by_reward true is =
        let id = coin_id (reward_coin reward block) in
        let absent = is_in_chain ledger id || is_among (map coin_id coins) id in
        new-one ledger coins (reward_coin reward block) are (not-true absent (and_parts (nat_lt 0 reward) (not absent) is).1)
    by_reward false is = subst (AreNew ledger) (sym (append-nil coins)) are

-- ---- spent coins

all-also : (p q : Hash32 → Bool) (ids : List Hash32) → ((id : Hash32) → p id ≡ true → q id ≡ true) → list_all p ids ≡ true → list_all q ids ≡ true
all-also p q [] also all = refl
all-also p q (id ∷ ids) also all =
    let parts = and_parts (p id) (list_all p ids) all in
    and_from (q id) (list_all q ids) (also id parts.0) (all-also p q ids also parts.1)

more-made : (id : Hash32) (coins more : List Coin) → is_among (map coin_id coins) id ≡ true → is_among (map coin_id (coins ++ more)) id ≡ true
more-made id coins more is =
    ap (λ ids. is_among ids id) (map-append coin_id coins more) ∙ list_any-append (λ other. is_same_id other id) (map coin_id coins) (map coin_id more)
    ∙ or_left (is_among (map coin_id coins) id) (is_among (map coin_id more) id) is

held-still : (unspent made more : Bool) → (made ≡ true → more ≡ true) → (unspent || made) ≡ true → (unspent || more) ≡ true
held-still true made more also e = refl
held-still false made more also e = also e

-- ---- the block

unasked : (test : Bool) → when {A = ℕ} (not test) 0 ≡ None → test ≡ true
unasked true e = refl
unasked false e = cc

next-height : (peak : Peak) (block : Block) → not_next peak block ≡ None → block.height ≡ suc peak.height
next-height peak block e =
    eqb-true block.height (suc peak.height) (and_parts (is_same_id block.previous peak.hash) (block.height == suc peak.height) (unasked (follows peak block) e)).1

has-room : (height next : ℕ) → next ≡ suc height → next < 2 ^ 32 → height < 2 ^ 32 - 1
has-room height next e small = omega arith

pub fine-connects : FineConnects
fine-connects reward terms ledger block list cost fee is =
    let verdict = judgement terms ledger block.spends block.attested in
    let next = unbroken NotNext (not_next ledger.peak block) (unless_broken NotLater (not_later ledger.peak block) verdict) cost fee is.fine in
    let later = unbroken NotLater (not_later ledger.peak block) verdict cost fee next.1 in
    let fine : judgement_of_facts terms ledger list block.attested ≡ Fine cost fee =
    sym (facts-decide terms terms.limit ledger list block.attested (omega arith) is.found)
    ∙ ap (λ these. judgement terms ledger these block.attested) is.these ∙ later.1 in
    let acts = map acts_of list in
    let coins = fine-is-spendable terms ledger list block.attested cost fee fine in
    let made = new-rewarded reward ledger block (created_coins acts) (record { once = coins.created_once; new = coins.new }) in
    let rewarded = option_to_list (when (is_rewarded reward ledger block (created_coins acts)) (reward_coin reward block)) in
    record {
      spent_once = coins.spent_once;
      spendable =
          all-also (is_held ledger acts) (is_spendable ledger (connected_block reward ledger block list)) (spent_ids acts)
          (λ id. held-still (is_unspent (look_up ledger id)) (is_among (created_ids acts) id) (is_among (map coin_id (created_coins acts ++ rewarded)) id) (more-made id (created_coins acts) rewarded))
          coins.held;
      created_once = made.once;
      new = made.new;
      room = has-room ledger.peak.height block.height (next-height ledger.peak block next.0) is.height;
    }

pub fine-stays-sound : FineStaysSound
fine-stays-sound reward terms chain block list cost fee sound is =
    connected-is-sound chain (connected_block reward (ledger_of chain) block list) sound (fine-connects reward terms (ledger_of chain) block list cost fee is)
