use Rattle.std.proofs.Common.{◌≡◌, ◌+◌, ◌++◌, ◌≤◌, length, take, get_or, vec_capacity, sym, ap, ◌∙◌, length-take, arith}
use Rattle.std.proofs.lemmas.List.{take_more}
use Rattle.pool_spec.specs.Replacement.{conflicts, do_conflict}
use Rattle.fee_replace.proofs.PlaceLaws.{place_if, count, one-more, listed-more, listed-same}
use Rattle.fee_replace.proofs.conflict.conflicts.Goals as goal
use Rattle.fee_replace.proofs.conflict.conflicts.Goals.{then-do_conflict, else-do_conflict}

pub push_place-requires : goal.push_place-requires
push_place-requires c =
    let before = take c.loop-place.place c.args.items.now in
    let listed : length c.loop-place.into.items ≡ length (conflicts c.args.new.now before) = ap (λ l. length l) c.loop-place.invariant.0 in
    let few : length (conflicts c.args.new.now before) ≤ length before = count (do_conflict c.args.new.now) 0 before in
    omega (arith, listed, few, length-take c.loop-place.place c.args.items.now, c.loop-place.invariant.1, c.loop-place-test.true)

pub loop-place-preserved : goal.loop-place-preserved
loop-place-preserved c =
    let new = c.args.new.now in
    let items = c.args.items.now in
    let k = c.loop-place.place in
    let item = c.index-items-place.result in
    let before = take k items in
    let here : length before ≡ k = omega (arith, length-take k items, c.loop-place-test.true) in
    let place_at : 0 + length before ≡ k = omega (arith, here) in
    let grown : conflicts new (take (k + 1) items) ≡ conflicts new before ++ place_if c.do_conflict.result k =
    ap (conflicts new) (take_more items k item c.loop-place-test.true)
    ∙ one-more (do_conflict new) 0 before (get_or items k item)
    ∙ ap (λ x. conflicts new before ++ place_if (do_conflict new x) (0 + length before)) (sym c.index-items-place.is)
    ∙ ap (λ b. conflicts new before ++ place_if b (0 + length before)) (sym c.do_conflict.ensures)
    ∙ ap (λ n. conflicts new before ++ place_if c.do_conflict.result n) place_at in
    elim c.if-do_conflict.branch [
      | then-do_conflict w ↦
          let room : vec_capacity c.if-do_conflict.into ≡ vec_capacity w.push_place.new.into = ap (λ v. vec_capacity v) w.into-is in (
            listed-more c.do_conflict.result k c.loop-place.into.items (conflicts new before) (conflicts new (take (k + 1) items)) c.if-do_conflict.into.items
                w.if-do_conflict.true (ap (λ v. v.items) w.into-is ∙ w.push_place.ensures.value) c.loop-place.invariant.0 grown,
            omega (arith, room, w.push_place.ensures.room, c.loop-place.invariant.1),
          )
      | else-do_conflict w ↦
          let room : vec_capacity c.if-do_conflict.into ≡ vec_capacity c.loop-place.into = ap (λ v. vec_capacity v) w.into-is in (
            listed-same c.do_conflict.result k c.loop-place.into.items (conflicts new before) (conflicts new (take (k + 1) items)) c.if-do_conflict.into.items
                w.if-do_conflict.false (ap (λ v. v.items) w.into-is) c.loop-place.invariant.0 grown,
            omega (arith, room, c.loop-place.invariant.1),
          )
    ]
