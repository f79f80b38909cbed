use Rattle.std.proofs.Common.{◌≡◌, true, false, ◌∷◌, ◌+◌, drop, get_or, sym, ap, ◌∙◌}
use Rattle.std.specs.List.{list_any}
use Rattle.coin_facts.specs.IdLists.{repeat_by}
use Rattle.cond_spec.specs.ActRules.{is_same_output}
use Rattle.spend_run.proofs.OutputLaws.{repeat_by-new, repeat_by-old}
use Rattle.spend_run.proofs.own_rules.same_output.Goals as goal

pub loop-place-preserved : goal.loop-place-preserved
loop-place-preserved c =
    let conditions = c.args.conditions.now in
    let place = c.loop-place.place in
    let held = c.loop-place.invariant in
    let repeats = c.in_ok-is_repeat.ensures held.0 held.1 in
    let x = c.index-conditions-place.result in
    let is = c.index-conditions-place.is in
    let fresh : list_any (λ other. is_same_output other (get_or conditions place x)) held.0 ≡ false = ap (λ y. list_any (λ other. is_same_output other y) held.0) (sym is) ∙ sym repeats.is ∙ c.if-branch.false in (
      x ∷ held.0,
      repeats.more c.if-branch.false,
      ap (λ y. repeat_by is_same_output (y ∷ held.0) (place + 1) (drop (place + 1) conditions)) is
          ∙ sym (repeat_by-new is_same_output held.0 conditions place x c.loop-place-test.true fresh) ∙ held.2,
    )

pub returns-then-branch-clause-value : goal.returns-then-branch-clause-value
returns-then-branch-clause-value c =
    let conditions = c.args.conditions.now in
    let place = c.loop-place.place in
    let held = c.loop-place.invariant in
    let repeats = c.in_ok-is_repeat.ensures held.0 held.1 in
    let x = c.index-conditions-place.result in
    let is = c.index-conditions-place.is in
    let there : list_any (λ other. is_same_output other (get_or conditions place x)) held.0 ≡ true = ap (λ y. list_any (λ other. is_same_output other y) held.0) (sym is) ∙ sym repeats.is ∙ c.if-branch.true in
    sym (repeat_by-old is_same_output held.0 conditions place x c.loop-place-test.true there) ∙ held.2
