use Rattle.std.proofs.Common.{◌≡◌, ℕ, ◌+◌, ◌-◌, ◌<◌, length, drop, None, sym, ◌∙◌, ap, subst, arith}
use Rattle.std.proofs.lemmas.List.{drop-drop}
use Rattle.clvm_spec.specs.Tree.{Atom}
use Rattle.clvm_spec.specs.Reading.{Head, PairMark, Leaf, Begins, Found, head_at, tree_at_front, front_of}
use Rattle.clvm_spec.specs.Reading
use Rattle.clvm_spec.proofs.HeadLaws.{head_shrinks, head_suffix}
use Rattle.clvm_spec.proofs.NumberLaws.{all_bytes}
use Rattle.clvm_spec.proofs.FrontLaws.{front_leaf, front_open}
use Rattle.clvm_tree.specs.Nodes.{tree_at}
use Rattle.clvm_tree.specs.Reads.{resumed, AreOpen}
use Rattle.clvm_tree.proofs.NodeLaws.{grows_on}
use Rattle.clvm_tree.proofs.ResumeLaws.{resumed-push, resumed-grows, AreOpen-grows, AreOpen-push, closes_some, closes_none, flaw_at, drop_by_length, spelled_front}
use Rattle.clvm_tree.proofs.arena.Trees.read.Goals as goal
use Rattle.clvm_tree.proofs.arena.Trees.read.Goals.{In-Leaf, In_ok-leaf-in-Leaf}

pub heads-smaller-in-Open : goal.heads-smaller-in-Open
heads-smaller-in-Open c = head_shrinks c.heads.rest.now PairMark c.in-Open.after.now (sym c.in-Open.ensures)

pub heads-preserved-in-Open : goal.heads-preserved-in-Open
heads-preserved-in-Open c =
    let trees = c.heads.self in
    let rest = c.heads.rest.now in
    let after = c.in-Open.after.now in
    let head = sym c.in-Open.ensures in
    let less = head_shrinks rest PairMark after head in
    let end = head_suffix rest PairMark after head in
    let items = c.in_ok-push-in-Open.ensures.items in
    record {
      grows = c.heads.invariant.grows;
      count = omega (arith, less, c.in_ok-push-in-Open.ensures.len, c.heads.invariant.count);
      begun = subst (AreOpen trees) (sym items) (AreOpen-push trees c.heads.begun.items None c.heads.invariant.begun tt);
      within = omega (arith, less, c.heads.invariant.within);
      suffix = (c.heads.invariant.suffix.0 + end.0, end.1 ∙ ap (drop end.0) c.heads.invariant.suffix.1 ∙ drop-drop end.0 c.heads.invariant.suffix.0 c.args.bytes.now);
      same = c.heads.invariant.same ∙ ap (resumed trees c.heads.begun.items) (front_open rest after head)
          ∙ sym (resumed-push trees c.heads.begun.items None (tree_at_front after)) ∙ ap (λ b. resumed trees b (tree_at_front after)) (sym items);
    }

shorter : (c : In-Leaf) → length c.in-Leaf.after.now < length c.heads.rest.now
shorter c = head_shrinks c.heads.rest.now (Leaf c.in-Leaf.atom.now) c.in-Leaf.after.now (sym c.in-Leaf.ensures)

pub atom-requires : goal.atom-requires
atom-requires c =
    let less = shorter (goal.at.atom-requires c).In-Leaf in
    omega (arith, less, c.heads.invariant.count, c.requires.fits)

pub close-requires-clause-begun : goal.close-requires-clause-begun
close-requires-clause-begun c = AreOpen-grows c.heads.self c.atom.new.self c.heads.begun.items c.in_ok-leaf-in-Leaf.ensures.ok.grows c.heads.invariant.begun

pub close-requires-clause-fits : goal.close-requires-clause-fits
close-requires-clause-fits c =
    let less = shorter (goal.at.close-requires-clause-fits c).In-Leaf in
    omega (arith, less, c.in_ok-leaf-in-Leaf.ensures.ok.few, c.heads.invariant.count, c.requires.fits)

pub returns-in_err-tree-in-Leaf-clause-few : goal.returns-in_err-tree-in-Leaf-clause-few
returns-in_err-tree-in-Leaf-clause-few c =
    let less = shorter (goal.at.returns-in_err-tree-in-Leaf-clause-few c).In-Leaf in
    omega (arith, less, c.in_ok-leaf-in-Leaf.ensures.ok.few, c.heads.invariant.count, c.in_err-tree-in-Leaf.ensures.count)

pub overflow_sub-result : goal.overflow_sub-result
overflow_sub-result c =
    let less = shorter (goal.at.overflow_sub-result c).In-Leaf in
    omega (arith, less, c.heads.invariant.within)

pub returns-in-Some-clause-few : goal.returns-in-Some-clause-few
returns-in-Some-clause-few c =
    let less = shorter (goal.at.returns-in-Some-clause-few c).In-Leaf in
    omega (arith, less, c.in_ok-leaf-in-Leaf.ensures.ok.few, c.heads.invariant.count, c.in_ok-tree-in-Leaf.ensures.count)

-- with the leaf read, and before the pairs that end with it are made
with_leaf : (c : In_ok-leaf-in-Leaf) → tree_at_front c.args.bytes.now ≡ resumed c.atom.new.self c.heads.begun.items (Found (tree_at c.atom.new.self c.in_ok-leaf-in-Leaf.leaf.0) c.in-Leaf.after.now)
with_leaf c =
    let old = c.heads.self in
    let new = c.atom.new.self in
    let begun = c.heads.begun.items in
    let after = c.in-Leaf.after.now in
    let adds = c.in_ok-leaf-in-Leaf.ensures.ok in
    c.heads.invariant.same ∙ ap (resumed old begun) (front_leaf c.heads.rest.now c.in-Leaf.atom.now after (sym c.in-Leaf.ensures))
    ∙ sym (resumed-grows old new begun (Found (Atom c.in-Leaf.atom.now) after) adds.grows c.heads.invariant.begun)
    ∙ ap (λ t. resumed new begun (Found t after)) (sym adds.stands)

suffix_after : (c : In-Leaf) → (k : ℕ) × (c.in-Leaf.after.now ≡ drop k c.args.bytes.now)
suffix_after c =
    let end = head_suffix c.heads.rest.now (Leaf c.in-Leaf.atom.now) c.in-Leaf.after.now (sym c.in-Leaf.ensures) in
    let before = c.heads.invariant.suffix in
    (before.0 + end.0, end.1 ∙ ap (drop end.0) before.1 ∙ drop-drop end.0 before.0 c.args.bytes.now)

pub returns-in-Some-clause-found : goal.returns-in-Some-clause-found
returns-in-Some-clause-found c =
    let at = goal.at.returns-in-Some-clause-found c in
    let bytes = c.args.bytes.now in
    let after = c.in-Leaf.after.now in
    let less = shorter at.In-Leaf in
    let end = suffix_after at.In-Leaf in
    let closes = closes_some c.atom.new.self c.close.new.self c.heads.begun.items c.close.new.begun.items (tree_at c.atom.new.self c.in_ok-leaf-in-Leaf.leaf.0) c.in_ok-tree-in-Leaf.field-0 c.in-Some.tree c.in-Some.is c.in_ok-tree-in-Leaf.ensures.closes in
    let count = length bytes - length after in
    let whole = tree_at c.close.new.self c.in-Some.tree.0 in
    let found : tree_at_front bytes ≡ Found whole after = with_leaf at.In_ok-leaf-in-Leaf ∙ closes.1 after in
    record {
      known = closes.0;
      within = omega arith;
      read = ap (front_of bytes) found;
      spelled = spelled_front bytes whole count (all_bytes bytes (λ i. (c.type_inv.bytes i).fits)) (found ∙ ap (Found whole) (drop_by_length bytes after end.0 end.1));
    }

pub heads-smaller : goal.heads-smaller
heads-smaller c = shorter (goal.at.heads-smaller c).In-Leaf

pub heads-preserved : goal.heads-preserved
heads-preserved c =
    let at = goal.at.heads-preserved c in
    let less = shorter at.In-Leaf in
    let closes = closes_none c.atom.new.self c.close.new.self c.heads.begun.items c.close.new.begun.items (tree_at c.atom.new.self c.in_ok-leaf-in-Leaf.leaf.0) c.in_ok-tree-in-Leaf.field-0 c.in-None.is c.in_ok-tree-in-Leaf.ensures.closes in
    record {
      grows = grows_on c.args.self.now c.heads.self c.close.new.self c.heads.invariant.grows (grows_on c.heads.self c.atom.new.self c.close.new.self c.in_ok-leaf-in-Leaf.ensures.ok.grows c.in_ok-tree-in-Leaf.ensures.grows);
      count = omega (arith, less, c.in_ok-leaf-in-Leaf.ensures.ok.few, c.heads.invariant.count, c.in_ok-tree-in-Leaf.ensures.count);
      begun = closes.0;
      within = omega (arith, less, c.heads.invariant.within);
      suffix = suffix_after at.In-Leaf;
      same = with_leaf at.In_ok-leaf-in-Leaf ∙ closes.1 c.in-Leaf.after.now;
    }

pub returns-in-Cut-clause-fault : goal.returns-in-Cut-clause-fault
returns-in-Cut-clause-fault c =
    (_, flaw_at c.heads.self c.heads.begun.items c.args.bytes.now c.heads.rest.now Reading.Cut c.heads.invariant.same (sym c.in-Cut.ensures))

pub returns-in-LongSpelling-clause-fault : goal.returns-in-LongSpelling-clause-fault
returns-in-LongSpelling-clause-fault c =
    flaw_at c.heads.self c.heads.begun.items c.args.bytes.now c.heads.rest.now Reading.LongSpelling c.heads.invariant.same (sym c.in-LongSpelling.ensures)

pub returns-in-BadPrefix-clause-fault : goal.returns-in-BadPrefix-clause-fault
returns-in-BadPrefix-clause-fault c =
    flaw_at c.heads.self c.heads.begun.items c.args.bytes.now c.heads.rest.now Reading.BadPrefix c.heads.invariant.same (sym c.in-BadPrefix.ensures)
