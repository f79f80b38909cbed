use Rattle.std.proofs.Common.{◌++◌, [], ◌∷◌, sym, subst, arith}
use Rattle.clvm_tree.specs.Nodes.{AreKnown}
use Rattle.clvm_tree.proofs.PendingLaws.{AreKnown-push}
use Rattle.clvm_ops.proofs.tests.elements.Goals as goal

pub elements-preserved : goal.elements-preserved
elements-preserved c =
    let parts = c.in-Some.ensures in
    let trees = c.args.trees.now in
    let known : AreKnown trees (c.elements.nodes.items ++ c.in-Some.first ∷ []) =
    AreKnown-push trees c.elements.nodes.items c.in-Some.first c.elements.invariant.1 (omega (arith, parts.first_earlier, c.elements.invariant.0)) in
    (omega (arith, parts.rest_earlier, c.elements.invariant.0), subst (AreKnown trees) (sym c.in_ok-push.ensures.items) known, omega (arith, parts.rest_earlier, c.elements.invariant.2))
