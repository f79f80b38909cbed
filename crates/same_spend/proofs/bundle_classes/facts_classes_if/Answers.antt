use Rattle.std.proofs.Common.{◌≡◌, ◌<◌, ◌++◌, ◌∷◌, [], false, length, map, get_or, sym, ap, ◌∙◌, arith}
use Rattle.std.proofs.lemmas.List.{get_or_default}
use Rattle.same_spend.specs.Told.{facts_class_if}
use Rattle.same_spend.proofs.PlaceLaws.{classed-more, zip-whole}
use Rattle.same_spend.proofs.bundle_classes.facts_classes_if.Goals as goal

pub loop-place-preserved : goal.loop-place-preserved
loop-place-preserved c =
    let list = c.args.list.now in
    let marks = c.args.forwards.now in
    let k = c.loop-place.place in
    let h : k < length list = c.loop-place-test.true in
    let also : k < length marks = omega (arith, h, c.requires) in
    c.in_ok-push.ensures.items ∙ (λ i. c.loop-place.invariant i ++ c.facts_class_if.ensures i ∷ [])
    ∙ sym (classed-more facts_class_if list marks k c.index-list-place.result (get_or marks k false) h c.requires c.index-list-place.is
    (get_or_default marks k false (get_or marks k false) also))

pub returns : goal.returns
returns c =
    c.loop-place.invariant
    ∙ ap (map facts_class_if) (zip-whole c.args.list.now c.args.forwards.now c.loop-place.place c.requires (omega (arith, c.loop-place-test.false)))
