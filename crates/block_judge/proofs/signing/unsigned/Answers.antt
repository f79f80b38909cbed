use Rattle.std.proofs.Common.{◌≡◌, not, Bool, true, false, ap, sym, ◌∙◌, arith}
use Rattle.std.specs.List.{list_all}
use Rattle.std.proofs.lemmas.List.{drop_all}
use Rattle.cond_spec.specs.Acts.{of_spend}
use Rattle.cond_spec.specs.Signing.{to_sign}
use Rattle.judge_spec.specs.Facts.{Facts, acts_of}
use Rattle.block_judge.specs.Signatures.{is_in}
use Rattle.block_judge.proofs.PlaceLaws.{place_from, place_from-is, place-next, place-here}
use Rattle.block_judge.proofs.signing.unsigned.Goals as goal

pub loop-place-preserved : goal.loop-place-preserved
loop-place-preserved c =
    let list = c.args.list.now in
    let place = c.loop-place.place in
    let facts = c.index-list-place.result in
    let test : Facts → Bool = λ f. not (list_all (is_in c.args.attested.now) (of_spend (to_sign c.args.genesis.now) (acts_of f))) in
    let signed = sym c.in_ok-are_signed.ensures ∙ c.if-not-branch.false in
    sym (place-next test list place facts c.loop-place-test.true (ap test (sym c.index-list-place.is) ∙ ap not signed)) ∙ c.loop-place.invariant

pub returns-then-not-branch-clause-value : goal.returns-then-not-branch-clause-value
returns-then-not-branch-clause-value c =
    let list = c.args.list.now in
    let place = c.loop-place.place in
    let facts = c.index-list-place.result in
    let test : Facts → Bool = λ f. not (list_all (is_in c.args.attested.now) (of_spend (to_sign c.args.genesis.now) (acts_of f))) in
    let signed = sym c.in_ok-are_signed.ensures ∙ c.if-not-branch.true in
    sym (place-here test list place facts c.loop-place-test.true (ap test (sym c.index-list-place.is) ∙ ap not signed)) ∙ c.loop-place.invariant ∙ place_from-is test list

pub returns-clause-value : goal.returns-clause-value
returns-clause-value c =
    let list = c.args.list.now in
    let place = c.loop-place.place in
    let test : Facts → Bool = λ f. not (list_all (is_in c.args.attested.now) (of_spend (to_sign c.args.genesis.now) (acts_of f))) in
    ap (place_from test place) (sym (drop_all place list (omega (arith, c.loop-place-test.false)))) ∙ c.loop-place.invariant ∙ place_from-is test list
