use Rattle.std.proofs.Common.{Bool, ap, sym, ◌∙◌}
use Rattle.std.specs.List.{list_all, flat_map}
use Rattle.std.proofs.lemmas.List.{drop_all}
use Rattle.cond_spec.specs.declared.condition.Condition.{Condition}
use Rattle.cond_spec.specs.Signing.{to_sign}
use Rattle.block_judge.specs.Signatures.{is_in}
use Rattle.block_judge.proofs.FlatLaws.{all_flat}
use Rattle.block_judge.proofs.PlaceLaws.{all-fails}
use Rattle.block_judge.proofs.signing.are_signed.Goals as goal

pub returns-then-not-branch : goal.returns-then-not-branch
returns-then-not-branch c =
    let set = c.args.attested.now in
    let genesis = c.args.genesis.now in
    let items = c.as_slice-conditions.result.now in
    let own = c.behind-facts.inside.coin in
    let test : Condition → Bool = λ condition. list_all (is_in set) (to_sign genesis own condition) in
    let coin = ap (λ s. s.coin) (c.behind-facts.view_is ∙ c.spend.ensures.value) in
    let conditions = c.as_slice-conditions.ensures.value ∙ c.conditions.ensures in
    let fails = ap test (sym c.condition-item.is) ∙ sym c.in_ok-is_signed.ensures ∙ c.if-not-branch.true in
    sym (all-fails test items c.loop-condition.condition-index c.condition-item.result c.loop-condition-test.true fails)
    ∙ c.loop-condition.invariant ∙ all_flat (is_in set) (to_sign genesis own) items
    ∙ (λ i. list_all (is_in set) (flat_map (to_sign genesis (coin i)) (conditions i)))

pub returns : goal.returns
returns c =
    let set = c.args.attested.now in
    let genesis = c.args.genesis.now in
    let items = c.as_slice-conditions.result.now in
    let own = c.behind-facts.inside.coin in
    let test : Condition → Bool = λ condition. list_all (is_in set) (to_sign genesis own condition) in
    let coin = ap (λ s. s.coin) (c.behind-facts.view_is ∙ c.spend.ensures.value) in
    let conditions = c.as_slice-conditions.ensures.value ∙ c.conditions.ensures in
    ap (list_all test) (sym (drop_all c.loop-condition.condition-index items c.loop-condition-test.false))
    ∙ c.loop-condition.invariant ∙ all_flat (is_in set) (to_sign genesis own) items
    ∙ (λ i. list_all (is_in set) (flat_map (to_sign genesis (coin i)) (conditions i)))
