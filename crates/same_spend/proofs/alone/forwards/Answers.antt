use Rattle.std.proofs.Common.{◌≡◌, ◌&&◌, not, length, map, ap, ◌∙◌}
use Rattle.std.specs.List.{list_all}
use Rattle.std.proofs.lemmas.Result.{IfOk-weaker}
use Rattle.same_spend.specs.Marks.{forwards}
use Rattle.same_spend.proofs.MarkLaws.{forwards-by-set, forwards-count}
use Rattle.same_spend.proofs.alone.forwards.Goals as goal

pub returns-clause-value : goal.returns-clause-value
returns-clause-value c =
    let hashes = c.args.hashes.now in
    let shaped = c.args.shaped.now in
    let lone = c.in_ok-lone.lone.items in
    let all : c.are_all.result ≡ list_all (λ mark. mark) lone = c.are_all.ensures ∙ ap (list_all (λ mark. mark)) c.as_slice.ensures.value in
    IfOk-weaker c.unless.result (λ left. left.items ≡ map (λ mark. mark && not c.are_all.result) c.as_slice-2.result.now) (λ marks. marks.items ≡ forwards hashes shaped)
    (λ left is. forwards-by-set c.in_ok-repeated.repeated hashes shaped lone left.items c.in_ok-repeated.ensures c.in_ok-lone.ensures
    (is ∙ (λ i. map (λ mark. mark && not (all i)) (c.as_slice-2.ensures.value i))))
    c.unless.ensures

pub returns-clause-count : goal.returns-clause-count
returns-clause-count c =
    let hashes = c.args.hashes.now in
    let shaped = c.args.shaped.now in
    IfOk-weaker c.unless.result (λ marks. marks.items ≡ forwards hashes shaped) (λ marks. length marks.items ≡ length hashes)
    (λ marks is. forwards-count hashes shaped marks.items c.requires is) (returns-clause-value c)
