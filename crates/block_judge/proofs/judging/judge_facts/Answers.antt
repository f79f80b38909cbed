use Rattle.std.proofs.Common.{◌≡◌, [], Some, None, ap, sym, ◌∙◌}
use Rattle.std.proofs.lemmas.Result.{IfOk-weaker}
use Rattle.coin_facts.specs.IdLists.{repeat_behind}
use Rattle.judge_spec.specs.GrowthLaws.{ids_spent}
use Rattle.judge_spec.specs.JudgeLaws.{scene_of}
use Rattle.judge_spec.specs.Judgement.{Verdict, Broken, spends_in, with_costs, judged, judgement_of_facts}
use Rattle.block_judge.specs.Breaches.{scene_on}
use Rattle.block_judge.specs.Verdicts.{told, terms_within}
use Rattle.block_judge.proofs.VerdictLaws.{are-twice, are-once}
use Rattle.block_judge.proofs.judging.judge_facts.Goals as goal

pub returns-in-Some : goal.returns-in-Some
returns-in-Some g c =
    let ids = c.as_slice.ensures.value ∙ c.in_ok-ids.ensures ∙ ap (λ list. ids_spent (spends_in list)) c.as_slice-facts.ensures.value in
    let twice = sym (c.in_ok-place.ensures.value ∙ ap (repeat_behind [] 0) ids) ∙ c.in-Some.is in
    c.verdict.ensures ∙ (λ i. Broken (c.new.ensures i).rule (c.new.ensures i).place)
    ∙ sym (are-twice (terms_within c.args.limit) (g.C.Coins.seen c.args.coins.now) c.args.attested.now c.args.list.now c.in-Some.place twice)

pub returns-in-Ok : goal.returns-in-Ok
returns-in-Ok g c =
    let ledger = g.C.Coins.seen c.args.coins.now in
    let terms = terms_within c.args.limit in
    let attested = c.args.attested.now in
    let ids = c.as_slice.ensures.value ∙ c.in_ok-ids.ensures ∙ ap (λ list. ids_spent (spends_in list)) c.as_slice-facts.ensures.value in
    let once = sym (c.in_ok-place.ensures.value ∙ ap (repeat_behind [] 0) ids) ∙ c.in-None.is in
    let verdict_on = judged (scene_of terms ledger c.args.list.now attested) in
    let kept = (λ i. with_costs terms (sym c.peak.ensures.value i) [] (sym c.as_slice-facts.ensures.value i) verdict_on) ∙ c.in-Ok.ensures.ok.kept verdict_on in
    IfOk-weaker c.judged.result (λ verdict. told verdict ≡ judged (scene_on ledger c.as_slice-facts.result.now attested)) (λ verdict. told verdict ≡ judgement_of_facts terms ledger c.args.list.now attested)
    (λ verdict is. is ∙ ap (λ list. judged (scene_of terms ledger list attested)) c.as_slice-facts.ensures.value ∙ sym kept ∙ sym (are-once terms ledger attested c.args.list.now once))
    c.judged.ensures

pub returns : goal.returns
returns g c =
    let ledger = g.C.Coins.seen c.args.coins.now in
    let terms = terms_within c.args.limit in
    let attested = c.args.attested.now in
    let ids = c.as_slice.ensures.value ∙ c.in_ok-ids.ensures ∙ ap (λ list. ids_spent (spends_in list)) c.as_slice-facts.ensures.value in
    let once = sym (c.in_ok-place.ensures.value ∙ ap (repeat_behind [] 0) ids) ∙ c.in-None.is in
    let verdict_on = judged (scene_of terms ledger c.args.list.now attested) in
    c.verdict-in-Err.ensures ∙ (λ i. Broken (c.new-in-Err.ensures i).rule (c.new-in-Err.ensures i).place)
    ∙ sym (c.in-Err.ensures.err verdict_on) ∙ (λ i. with_costs terms (c.peak.ensures.value i) [] (c.as_slice-facts.ensures.value i) verdict_on)
    ∙ sym (are-once terms ledger attested c.args.list.now once)
