use Rattle.std.proofs.Common.{◌≡◌, ◌<◌, ◌++◌, ◌∷◌, [], false, length, map, get_or, sym, ap, ◌∙◌, arith}
use Rattle.std.proofs.lemmas.List.{get_or_default}
use Rattle.same_spend.specs.Told.{class_if}
use Rattle.same_spend.proofs.PlaceLaws.{classed-more, zip-whole}
use Rattle.same_spend.proofs.bundle_classes.classes_if.Goals as goal

pub loop-place-preserved : goal.loop-place-preserved
loop-place-preserved c =
    let spends = c.args.spends.now in
    let marks = c.args.forwards.now in
    let k = c.loop-place.place in
    let h : k < length spends = c.loop-place-test.true in
    let also : k < length marks = omega (arith, h, c.requires) in
    c.in_ok-push.ensures.items ∙ (λ i. c.loop-place.invariant i ++ c.in_ok-class_if.ensures i ∷ [])
    ∙ sym (classed-more (class_if c.args.limit) spends marks k c.index-spends-place.result (get_or marks k false) h c.requires c.index-spends-place.is
    (get_or_default marks k false (get_or marks k false) also))

pub returns : goal.returns
returns c =
    c.loop-place.invariant
    ∙ ap (map (class_if c.args.limit)) (zip-whole c.args.spends.now c.args.forwards.now c.loop-place.place c.requires (omega (arith, c.loop-place-test.false)))
