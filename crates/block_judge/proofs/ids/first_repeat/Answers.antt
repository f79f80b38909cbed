use Rattle.std.proofs.Common.{◌≡◌, true, false, [], ◌∷◌, get_or, sym, ◌∙◌}
use Rattle.coin_facts.specs.IdLists.{is_among}
use Rattle.block_judge.proofs.RepeatLaws.{repeat_behind-new, repeat_behind-old, HasIds-more, new_from_added, old_from_added}
use Rattle.block_judge.proofs.ids.first_repeat.Goals as goal

pub loop-place-preserved : goal.loop-place-preserved
loop-place-preserved c =
    let ids = c.args.ids.now in
    let place = c.loop-place.place in
    let held = c.loop-place.invariant in
    let id = get_or ids place (record { bytes = [] }) in
    let fresh : is_among held.0 id ≡ false = sym (held.1 id) ∙ new_from_added _ (c.if-not-branch.false) c.in_ok-insert.ensures.added in
    (id ∷ held.0, HasIds-more c.loop-place.earlier c.insert.new.self held.0 id held.1 c.in_ok-insert.ensures.updates.0, sym (repeat_behind-new held.0 ids place _ (c.loop-place-test.true) fresh) ∙ held.2)

pub returns-then-not-branch-clause-value : goal.returns-then-not-branch-clause-value
returns-then-not-branch-clause-value c =
    let ids = c.args.ids.now in
    let place = c.loop-place.place in
    let held = c.loop-place.invariant in
    let id = get_or ids place (record { bytes = [] }) in
    let there : is_among held.0 id ≡ true = sym (held.1 id) ∙ old_from_added _ (c.if-not-branch.true) c.in_ok-insert.ensures.added in
    sym (repeat_behind-old held.0 ids place _ (c.loop-place-test.true) there) ∙ held.2
