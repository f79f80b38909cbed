use Rattle.std.proofs.Common.{[], ◌∷◌, ◌++◌, Some, None, sym, ◌∙◌, ap, subst, arith}
use Rattle.clvm_spec.specs.Reading.{Found, tree_at_front}
use Rattle.clvm_tree.specs.Nodes.{tree_at}
use Rattle.clvm_tree.specs.Reads.{resumed, AreOpen}
use Rattle.clvm_tree.proofs.NodeLaws.{grows_on}
use Rattle.clvm_tree.proofs.ResumeLaws.{resumed-push, resumed-grows, AreOpen-grows, AreOpen-init, AreOpen-last, AreOpen-push}
use Rattle.clvm_tree.proofs.arena.Trees.close.Goals as goal

pub pair-requires-clause-first_known : goal.pair-requires-clause-first_known
pair-requires-clause-first_known c =
    let popped = c.pop.new.self.items in
    let items = c.in-Some.ensures.items ∙ ap (λ o. popped ++ o ∷ []) c.in-Some-first.is in
    (AreOpen-last c.pairs.self popped (Some c.in-Some-first.first) (subst (AreOpen c.pairs.self) items c.pairs.invariant.begun)).0

pub pairs-preserved : goal.pairs-preserved
pairs-preserved c =
    let trees = c.pairs.self in
    let popped = c.pop.new.self.items in
    let first = c.in-Some-first.first in
    let adds = c.in_ok-whole-in-Some-first.ensures.ok in
    let items = c.in-Some.ensures.items ∙ ap (λ o. popped ++ o ∷ []) c.in-Some-first.is in
    let known = AreOpen-init trees popped (Some first) (subst (AreOpen trees) items c.pairs.invariant.begun) in
    record {
      grows = grows_on c.args.self.now trees c.pair.new.self c.pairs.invariant.grows adds.grows;
      count = omega (arith, adds.few, c.in-Some.ensures.len, c.pairs.invariant.count);
      known = adds.known;
      begun = AreOpen-grows trees c.pair.new.self popped adds.grows known;
      same = λ rest.
          c.pairs.invariant.same rest ∙ ap (λ b. resumed trees b (Found (tree_at trees c.pairs.whole.0) rest)) items
          ∙ resumed-push trees popped (Some first) (Found (tree_at trees c.pairs.whole.0) rest)
          ∙ ap (λ t. resumed trees popped (Found t rest)) (sym adds.stands)
          ∙ sym (resumed-grows trees c.pair.new.self popped (Found (tree_at c.pair.new.self c.in_ok-whole-in-Some-first.whole.0) rest) adds.grows known);
    }

pub returns-in-None-clause-closes : goal.returns-in-None-clause-closes
returns-in-None-clause-closes c =
    let trees = c.pairs.self in
    let popped = c.pop.new.self.items in
    let whole = c.pairs.whole in
    let items = c.in-Some.ensures.items ∙ ap (λ o. popped ++ o ∷ []) c.in-None.is in
    let known = AreOpen-init trees popped None (subst (AreOpen trees) items c.pairs.invariant.begun) in
    let pushed = c.in_ok-push-in-None.ensures.items in (
      subst (AreOpen trees) (sym pushed) (AreOpen-push trees popped (Some whole) known (c.pairs.invariant.known, tt)),
      λ rest.
          c.pairs.invariant.same rest ∙ ap (λ b. resumed trees b (Found (tree_at trees whole.0) rest)) items
          ∙ resumed-push trees popped None (Found (tree_at trees whole.0) rest)
          ∙ sym (resumed-push trees popped (Some whole) (tree_at_front rest))
          ∙ ap (λ b. resumed trees b (tree_at_front rest)) (sym pushed),
    )
