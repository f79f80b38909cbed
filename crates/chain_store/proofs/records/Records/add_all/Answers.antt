use Rattle.std.proofs.Common.{◌≡◌, ◌+◌, suc, [], ◌∷◌, ◌++◌, map, length, drop, get_or, ap, sym, subst, ◌∙◌, append_assoc, arith}
use Rattle.std.proofs.lemmas.List.{drop_more, append-nil}
use Rattle.coin_facts.specs.declared.coin.Coin.{Coin}
use Rattle.chain_spec.specs.Chain.{made_at}
use Rattle.chain_store.specs.RecordsView.{AreNew}
use Rattle.chain_store.proofs.MarkLaws.{new-step, drop-all}
use Rattle.chain_store.proofs.records.Records.add_all.Goals as goal

pub add-requires : goal.add-requires
add-requires c =
    let coins = c.args.coins.now in
    let place = c.loop-coin.coin-index in
    let some : Coin = record { parent = record { bytes = [] }; puzzle_hash = record { bytes = [] }; amount = 0 } in
    let coin = get_or coins place some in
    let left = drop (place + 1) coins in
    let list = c.loop-coin.self.list in
    let before = c.loop-coin.invariant in
    let next : drop place coins ≡ coin ∷ left = drop_more coins place some c.loop-coin-test.true in
    let step = new-step c.args.height c.args.seconds list coin left (subst (AreNew list) next before.0) in
    let long : length (drop place coins) ≡ suc (length left) = ap length next in
    record { room = omega (arith, long, before.2); new = step.first }

pub loop-coin-preserved : goal.loop-coin-preserved
loop-coin-preserved c =
    let coins = c.args.coins.now in
    let place = c.loop-coin.coin-index in
    let some : Coin = record { parent = record { bytes = [] }; puzzle_hash = record { bytes = [] }; amount = 0 } in
    let coin = get_or coins place some in
    let left = drop (place + 1) coins in
    let list = c.loop-coin.self.list in
    let before = c.loop-coin.invariant in
    let next : drop place coins ≡ coin ∷ left = drop_more coins place some c.loop-coin-test.true in
    let step = new-step c.args.height c.args.seconds list coin left (subst (AreNew list) next before.0) in
    let long : length (drop place coins) ≡ suc (length left) = ap length next in
    let after = c.add.ensures in
    let make = made_at c.args.height c.args.seconds in (
      subst (λ grown. AreNew grown left) (sym after.list) step.others,
      ap (λ grown. grown ++ map make left) after.list
          ∙ append_assoc list (make coin ∷ []) (map make left)
          ∙ ap (λ coming. list ++ map make coming) (sym next)
          ∙ before.1,
      omega (arith, long, before.2, after.room),
      omega (arith, before.3, after.room),
    )

pub returns : goal.returns
returns c =
    let coins = c.args.coins.now in
    let list = c.loop-coin.self.list in
    let none : drop c.loop-coin.coin-index coins ≡ [] = drop-all c.loop-coin.coin-index coins c.loop-coin-test.false in
    record {
      list = sym (append-nil list) ∙ ap (λ coming. list ++ map (made_at c.args.height c.args.seconds) coming) (sym none) ∙ c.loop-coin.invariant.1;
      room = omega (arith, c.loop-coin.invariant.3, c.loop-coin.auto.coin-index-end);
    }
