use Rattle.std.proofs.Common.{◌≡◌, [], Some, None, List, ap, sym, ◌∙◌, IfOk}
use Rattle.std.proofs.lemmas.Result.{IfOk-weaker}
use Rattle.coin_facts.specs.IdLists.{repeat_behind}
use Rattle.judge_spec.specs.Facts.{Facts}
use Rattle.judge_spec.specs.GrowthLaws.{ids_spent}
use Rattle.judge_spec.specs.JudgeLaws.{scene_of}
use Rattle.judge_spec.specs.Judgement.{Verdict, Broken, spent_twice, with_facts, judged, judgement}
use Rattle.block_judge.specs.Breaches.{scene_on}
use Rattle.block_judge.specs.Costs.{IsToldBy}
use Rattle.block_judge.specs.Verdicts.{told, terms_within}
use Rattle.block_judge.proofs.CostLaws.{told-stop}
use Rattle.block_judge.proofs.VerdictLaws.{is-twice, is-once}
use Rattle.block_judge.proofs.judging.judge.Goals as goal

pub returns-in-Some : goal.returns-in-Some
returns-in-Some g c =
    let ids = c.as_slice-2.ensures.value ∙ c.in_ok-ids.ensures ∙ ap ids_spent c.as_slice.ensures.value in
    let twice = sym (c.in_ok-place.ensures.value ∙ ap (repeat_behind [] 0) ids) ∙ c.in-Some.is in
    c.verdict.ensures ∙ (λ i. Broken (c.new.ensures i).rule (c.new.ensures i).place)
    ∙ sym (is-twice (terms_within c.args.limit) (g.C.Coins.seen c.args.coins.now) c.args.attested.now c.args.spends.now c.in-Some.place twice)

pub returns-in-Ok : goal.returns-in-Ok
returns-in-Ok g c =
    let ledger = g.C.Coins.seen c.args.coins.now in
    let terms = terms_within c.args.limit in
    let attested = c.args.attested.now in
    let ids = c.as_slice-2.ensures.value ∙ c.in_ok-ids.ensures ∙ ap ids_spent c.as_slice.ensures.value in
    let once = sym (c.in_ok-place.ensures.value ∙ ap (repeat_behind [] 0) ids) ∙ c.in-None.is in
    let go : List Facts → Verdict = λ list. judged (scene_of terms ledger list attested) in
    let kept = (λ i. with_facts terms (sym c.peak.ensures.value i) [] (sym c.as_slice-3.ensures.value i) go) ∙ c.in-Ok.ensures.ok.kept go in
    IfOk-weaker c.judged.result (λ verdict. told verdict ≡ judged (scene_on ledger c.as_slice-in-Ok.result.now attested)) (λ verdict. told verdict ≡ judgement terms ledger c.args.spends.now attested)
    (λ verdict is. is ∙ ap go c.as_slice-in-Ok.ensures.value ∙ sym kept ∙ sym (is-once terms ledger attested c.args.spends.now once))
    c.judged.ensures

pub returns : goal.returns
returns g c =
    let ledger = g.C.Coins.seen c.args.coins.now in
    let terms = terms_within c.args.limit in
    let attested = c.args.attested.now in
    let ids = c.as_slice-2.ensures.value ∙ c.in_ok-ids.ensures ∙ ap ids_spent c.as_slice.ensures.value in
    let once = sym (c.in_ok-place.ensures.value ∙ ap (repeat_behind [] 0) ids) ∙ c.in-None.is in
    let go : List Facts → Verdict = λ list. judged (scene_of terms ledger list attested) in
    let walked : with_facts terms c.peak.result [] c.as_slice-3.result.now go ≡ with_facts terms ledger.peak [] c.args.spends.now go =
    λ i. with_facts terms (c.peak.ensures.value i) [] (c.as_slice-3.ensures.value i) go in
    IfOk-weaker c.verdict_by.result (IsToldBy c.in-Err.stop) (λ verdict. told verdict ≡ judgement terms ledger c.args.spends.now attested)
    (λ verdict is. told-stop (with_facts terms c.peak.result [] c.as_slice-3.result.now) go c.in-Err.stop verdict c.in-Err.ensures.err is
    ∙ walked ∙ sym (is-once terms ledger attested c.args.spends.now once))
    c.verdict_by.ensures
