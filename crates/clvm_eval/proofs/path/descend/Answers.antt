use Rattle.std.proofs.Common.{◌≡◌, suc, ◌/◌, ◌∙◌, ap, arith}
use Rattle.clvm_spec.specs.Path.{followed}
use Rattle.clvm_tree.specs.Nodes.{tree_at}
use Rattle.clvm_eval.proofs.PathLaws.{followed-end, no_bit_on, one_bit_on}
use Rattle.clvm_eval.proofs.path.descend.Goals as goal

pub returns-in_err-at : goal.returns-in_err-at
returns-in_err-at c =
    rw c.from_residual.ensures (λ bound below.
    let before = c.bits.invariant.same bound below in
    before.2 ∙ no_bit_on before.0 c.bits.left c.bits.at.steps (tree_at c.args.trees.now c.bits.at.node.0) c.in_err-at.ensures c.bits-test.true before.1)

pub bits-smaller : goal.bits-smaller
bits-smaller c = omega (arith, c.bits-test.true)

pub bits-preserved : goal.bits-preserved
bits-preserved c =
    let step = c.in_ok-at.ensures in
    let trees = c.args.trees.now in
    let at = c.bits.at in
    record {
      known = step.known;
      few = omega (arith, step.earlier, step.steps, c.bits.invariant.few);
      same = λ bound below.
          let before = c.bits.invariant.same bound below in
          let on = one_bit_on before.0 c.bits.left at.steps (tree_at trees at.node.0) (tree_at trees c.in_ok-at.at.node.0) step.leads c.bits-test.true before.1 in
          let count : suc at.steps ≡ c.in_ok-at.at.steps = omega (arith, step.steps) in (
            on.0,
            on.1,
            before.2 ∙ on.2 ∙ ap (λ s. followed on.0 (c.bits.left / 2) s (tree_at trees c.in_ok-at.at.node.0)) count,
          );
    }

pub returns : goal.returns
returns c = record {
  known = c.bits.invariant.known;
  few = c.bits.invariant.few;
  reached = λ bound below.
      let before = c.bits.invariant.same bound below in
      before.2 ∙ followed-end before.0 c.bits.left c.bits.at.steps (tree_at c.args.trees.now c.bits.at.node.0) c.bits-test.false;
}
