use Rattle.std.proofs.Common.{arith}
use Rattle.clvm_eval.proofs.FormLaws.{adds_more}
use Rattle.clvm_eval.proofs.evaluate.add_operands.Goals as goal

pub elements-preserved : goal.elements-preserved
elements-preserved c =
    let trees = c.args.trees.now in
    let parts = c.in-Some.ensures in
    let here = c.elements.invariant.known in
    record {
      known = omega (arith, parts.rest_earlier, here);
      some = adds_more trees c.args.list.0 c.elements.rest.0 c.in-Some.more.0 c.args.operands.now.items c.elements.operands.items _ c.elements.count c.in-Some.program c.elements.invariant.some parts here c.in_ok-push.ensures.items;
    }
