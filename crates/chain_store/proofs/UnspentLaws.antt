-- Unspent coins among records, found one by one.
use Rattle.std.proofs.Common.{◌≡◌, ℕ, ◌+◌, ◌<◌, Bool, true, false, ◌&&◌, cond, List, [], ◌∷◌, ◌++◌, length, take, get_or, filter, refl, ap, sym, ◌∙◌}
use Rattle.std.proofs.lemmas.List.{append-nil}
use Rattle.std.proofs.lemmas.List.Elements.{filter_more}
use Rattle.coin_facts.specs.declared.hash32.Hash32.{Hash32}
use Rattle.coin_facts.specs.CoinId.{coin_id}
use Rattle.chain_spec.specs.declared.chain.Record.{Record}
use Rattle.chain_spec.specs.declared.chain.Unspent.{Unspent}
use Rattle.chain_spec.specs.Looks.{is_unspent_of, is_outside, unspent_in}
use Rattle.chain_store.specs.Unspents.{is_asked, unspent_among, with_any}

-- one more at the end, where it passes
grown : (list : List Record) (one : Record) (passes : Bool) → unspent_in (list ++ cond passes (one ∷ []) []) ≡ with_any passes (coin_id one.coin) (unspent_in list)
grown list one false = ap unspent_in (append-nil list)
grown [] one true = refl
grown (first ∷ []) one true = refl
grown (first ∷ other ∷ list) one true = refl

both-filters : (a b : Record → Bool) (list : List Record) → filter b (filter a list) ≡ filter (λ one. a one && b one) list
both-filters a b [] = refl
both-filters a b (one ∷ list) = by_test (a one) (both-filters a b list)
  where
    by_test : (test : Bool) → filter b (filter a list) ≡ filter (λ other. a other && b other) list
        → filter b (cond test (one ∷ filter a list) (filter a list)) ≡ cond (test && b one) (one ∷ filter (λ other. a other && b other) list) (filter (λ other. a other && b other) list)
    by_test true more = ap (λ others. cond (b one) (one ∷ others) others) more
    by_test false more = more

module _ (puzzle_hash : Hash32) (amount : ℕ) (except : List Hash32) where
  abbrev pub asked_in : List Record → Unspent
  asked_in list = unspent_in (filter (is_asked puzzle_hash amount except) list)

  pub asked-more : (list : List Record) (place : ℕ) (one : Record) → place < length list → one ≡ get_or list place one
      → asked_in (take (place + 1) list) ≡ with_any (is_asked puzzle_hash amount except one) (coin_id one.coin) (asked_in (take place list))
  asked-more list place one lt is =
      let asked = is_asked puzzle_hash amount except in
      let front = filter asked (take place list) in
      ap unspent_in (filter_more asked list place one lt)
      ∙ ap (λ x. unspent_in (front ++ cond (asked x) (x ∷ []) [])) (sym is)
      ∙ grown front one (asked one)

  pub asked-among : (list : List Record) → asked_in list ≡ unspent_among puzzle_hash amount except list
  asked-among list = ap unspent_in (sym (both-filters (is_unspent_of puzzle_hash amount) (is_outside except) list))
