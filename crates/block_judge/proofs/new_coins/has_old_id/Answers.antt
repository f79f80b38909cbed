use Rattle.std.proofs.Common.{◌≡◌, ◌∷◌, [], ◌++◌, ◌+◌, take, drop, get_or, ap, sym, ◌∙◌, subst, append_assoc, arith}
use Rattle.std.proofs.lemmas.Bool.{false≢true}
use Rattle.std.proofs.lemmas.List.{take_more, take_all, drop_all}
use Rattle.coin_facts.specs.declared.hash32.Hash32.{Hash32}
use Rattle.chain_spec.specs.Chain.{is_in_chain}
use Rattle.block_judge.specs.IdSets.{HasIds}
use Rattle.block_judge.proofs.NewCoinLaws.{adds_old, old-is, adds-next, adds-old, adds-none}
use Rattle.block_judge.proofs.new_coins.has_old_id.Goals as goal

pub loop-id-preserved : goal.loop-id-preserved
loop-id-preserved g c = λ earlier has.
    let there = is_in_chain (g.C.Coins.seen c.args.coins.now) in
    let ids = c.args.ids.now in
    let place = c.loop-id.id-index in
    let none : Hash32 = record { bytes = [] } in
    let held = c.loop-id.invariant earlier has in
    let asks = c.in_ok-is_old_id.ensures (earlier ++ take place ids) held.0 in
    let longer : (earlier ++ take place ids) ++ get_or ids place none ∷ [] ≡ earlier ++ take (place + 1) ids =
    append_assoc earlier (take place ids) (get_or ids place none ∷ []) ∙ ap (λ more. earlier ++ more) (sym (take_more ids place none c.loop-id-test.true)) in (
      subst (HasIds c.is_old_id.new.earlier) longer (asks.more c.if-branch.false),
      ap (λ before. adds_old there before (drop (place + 1) ids)) (sym longer)
          ∙ sym (adds-next there (earlier ++ take place ids) ids place none c.loop-id-test.true (sym asks.is ∙ c.if-branch.false)) ∙ held.1,
    )

pub returns-then-branch : goal.returns-then-branch
returns-then-branch g c = λ earlier has.
    let there = is_in_chain (g.C.Coins.seen c.args.coins.now) in
    let ids = c.args.ids.now in
    let place = c.loop-id.id-index in
    let none : Hash32 = record { bytes = [] } in
    let held = c.loop-id.invariant earlier has in
    let asks = c.in_ok-is_old_id.ensures (earlier ++ take place ids) held.0 in
    record {
      is = sym (old-is there earlier ids ∙ sym held.1 ∙ adds-old there (earlier ++ take place ids) ids place none c.loop-id-test.true (sym asks.is ∙ c.if-branch.true));
      more = λ e. absurd (false≢true (sym e));
    }

pub returns : goal.returns
returns g c = λ earlier has.
    let there = is_in_chain (g.C.Coins.seen c.args.coins.now) in
    let ids = c.args.ids.now in
    let place = c.loop-id.id-index in
    let held = c.loop-id.invariant earlier has in
    record {
      is = sym (old-is there earlier ids ∙ sym held.1 ∙ ap (adds_old there (earlier ++ take place ids)) (drop_all place ids (omega (arith, c.loop-id-test.false))) ∙ adds-none there (earlier ++ take place ids));
      more = λ e. subst (HasIds c.loop-id.earlier) (ap (λ more. earlier ++ more) (take_all place ids (omega (arith, c.loop-id-test.false)))) held.0;
    }
