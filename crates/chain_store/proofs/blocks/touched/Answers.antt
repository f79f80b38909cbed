use Rattle.std.proofs.Common.{◌≡◌, [], ◌∷◌, ◌++◌, ap, sym, ◌∙◌, append_assoc}
use Rattle.std.specs.Prelude.{reverse}
use Rattle.std.specs.List.{flat_map}
use Rattle.std.proofs.lemmas.List.{append-nil, reverse-append}
use Rattle.chain_spec.specs.Chain.{touched_by}
use Rattle.chain_store.proofs.MarkLaws.{no-elements}
use Rattle.chain_store.proofs.blocks.touched.Goals as goal

pub loop-last-preserved : goal.loop-last-preserved
loop-last-preserved c =
    let others = c.in-Some.others.now in
    let last = c.in-Some.last.now in
    let ids = c.loop-last.ids.items in
    let rest = flat_map touched_by (reverse others) in
    let whole : flat_map touched_by (reverse c.loop-last.left.now) ≡ touched_by last ++ rest =
    ap (λ blocks. flat_map touched_by (reverse blocks)) c.in-Some.ensures.cases.0 ∙ ap (flat_map touched_by) (reverse-append others (last ∷ [])) in
    ap (λ grown. grown ++ rest) c.in_ok-add_touched.ensures
    ∙ append_assoc ids (touched_by last) rest
    ∙ ap (λ more. ids ++ more) (sym whole)
    ∙ c.loop-last.invariant

pub returns : goal.returns
returns c =
    let ids = c.loop-last.ids.items in
    let none : c.loop-last.left.now ≡ [] = no-elements c.loop-last.left.now c.in_default.ensures.cases in
    sym (append-nil ids) ∙ ap (λ blocks. ids ++ flat_map touched_by (reverse blocks)) (sym none) ∙ c.loop-last.invariant
