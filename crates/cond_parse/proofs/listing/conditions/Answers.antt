use Rattle.std.proofs.Common.{◌≡◌, ◌+◌, ◌<◌, length, ap, ◌∙◌, arith, length-append}
use Rattle.clvm_spec.specs.Tree.{Pair}
use Rattle.clvm_tree.specs.Nodes.{tree_at}
use Rattle.cond_spec.specs.declared.condition.Condition.{Condition}
use Rattle.cond_spec.specs.Conditions.{conditions_of, conditions_from}
use Rattle.cond_parse.specs.Faults.{IsFirstFault}
use Rattle.cond_parse.proofs.ReadingLaws.{handed_fault}
use Rattle.cond_parse.proofs.ListingLaws.{in_front_of, goes_on, first_fault, ends, ends_badly}
use Rattle.cond_parse.proofs.listing.conditions.Goals as goal

pub returns-in_err-condition-clause-err : goal.returns-in_err-condition-clause-err
unfolding conditions_of
returns-in_err-condition-clause-err c =
    let trees = c.args.trees.now in
    let node = tree_at trees c.loop-first.node.0 in
    let first = tree_at trees c.in-Some.first.0 in
    let rest = tree_at trees c.in-Some.rest.0 in
    let is : node ≡ Pair first rest = c.in-Some.ensures.pair in
    let all = conditions_from 0 (tree_at trees c.args.value.0) in
    handed_fault (IsFirstFault all) c.in_err-condition.field-0.0 _ c.from_residual.ensures.1
    (first_fault c.loop-first.list c.loop-first.place node first rest all is c.loop-first.invariant.listed _ c.in_err-condition.ensures)

pub loop-first-preserved : goal.loop-first-preserved
loop-first-preserved c =
    let trees = c.args.trees.now in
    let node = tree_at trees c.loop-first.node.0 in
    let first = tree_at trees c.in-Some.first.0 in
    let rest = tree_at trees c.in-Some.rest.0 in
    let is : node ≡ Pair first rest = c.in-Some.ensures.pair in
    let earlier : c.in-Some.rest.0 < c.loop-first.node.0 = c.in-Some.ensures.rest_earlier in
    let all = conditions_from 0 (tree_at trees c.args.value.0) in
    let place = c.loop-first.place in
    record {
      known = omega arith;
      within = omega arith;
      count = omega (arith, ap length c.in_ok-push.ensures.ok, length-append {A = Condition});
      listed = ap (λ cs. in_front_of cs (conditions_from (place + 1) rest)) c.in_ok-push.ensures.ok
          ∙ goes_on c.loop-first.list place node first rest all is c.loop-first.invariant.listed c.in_ok-condition.condition c.in_ok-condition.ensures;
    }

pub returns-then-is_nil-clause-ok : goal.returns-then-is_nil-clause-ok
unfolding conditions_of
returns-then-is_nil-clause-ok c =
    ends c.loop-first.list c.loop-first.place (tree_at c.args.trees.now c.loop-first.node.0) (conditions_from 0 (tree_at c.args.trees.now c.args.value.0))
    (c.is_nil.ensures.0 c.if-is_nil.true) c.loop-first.invariant.listed

pub returns-else-is_nil-clause-err : goal.returns-else-is_nil-clause-err
unfolding conditions_of
returns-else-is_nil-clause-err c =
    ends_badly c.loop-first.list c.loop-first.place (tree_at c.args.trees.now c.loop-first.node.0) (conditions_from 0 (tree_at c.args.trees.now c.args.value.0))
    c.in_default.ensures (λ e. let yes = c.is_nil.ensures.1 e in cc) c.loop-first.invariant.listed
