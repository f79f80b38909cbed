use Rattle.std.proofs.Common.{[], ◌∷◌, sym, ◌∙◌, ap, arith}
use Rattle.clvm_spec.specs.Outcomes.{NoStep, Done, Failed}
use Rattle.clvm_spec.specs.Evaluation.{charge, at_path}
use Rattle.clvm_tree.specs.Nodes.{tree_at}
use Rattle.clvm_eval.proofs.EvaluationLaws.{ev-path, charge-paid, charge-short}
use Rattle.clvm_eval.proofs.QuickLaws.{byte_is}
use Rattle.clvm_eval.proofs.evaluate.evaluate_byte.Goals as goal

pub returns-in_default : goal.returns-in_default
returns-in_default c = λ depth.
    let trees = c.args.trees.now in
    let path = c.args.path ∷ [] in
    record {
      raised_known = tt;
      form_known = c.requires.program_known;
      failed = ev-path (tree_at trees c.args.program.0) (tree_at trees c.args.env.0) depth c.args.left.now path (byte_is (tree_at c.args.trees.now c.args.program.0) c.args.path c.requires.path)
          ∙ ap (λ r. at_path path r c.args.left.now) c.in_default.ensures ∙ ap (Failed NoStep) (sym (byte_is (tree_at c.args.trees.now c.args.program.0) c.args.path c.requires.path));
    }

pub returns-then-not-pay : goal.returns-then-not-pay
returns-then-not-pay c = λ depth.
    let trees = c.args.trees.now in
    let path = c.args.path ∷ [] in
    let left = c.args.left.now in
    ev-path (tree_at trees c.args.program.0) (tree_at trees c.args.env.0) depth left path (byte_is (tree_at c.args.trees.now c.args.program.0) c.args.path c.requires.path)
    ∙ ap (λ r. at_path path r left) c.in-Some.ensures.reached
    ∙ ap (λ k. charge k left (Done (tree_at trees c.in-Some.at.node.0))) (sym c.cost_of_byte.ensures)
    ∙ charge-short c.cost_of_byte.result left (Done (tree_at trees c.in-Some.at.node.0)) c.if-not-pay.ensures

pub returns : goal.returns
returns c =
    let trees = c.args.trees.now in
    let path = c.args.path ∷ [] in
    let left = c.args.left.now in
    record {
      known = c.in-Some.ensures.known;
      done = λ depth.
          ev-path (tree_at trees c.args.program.0) (tree_at trees c.args.env.0) depth left path (byte_is (tree_at c.args.trees.now c.args.program.0) c.args.path c.requires.path)
          ∙ ap (λ r. at_path path r left) c.in-Some.ensures.reached
          ∙ ap (λ k. charge k left (Done (tree_at trees c.in-Some.at.node.0))) (sym c.cost_of_byte.ensures)
          ∙ charge-paid c.cost_of_byte.result left c.pay.new.left (Done (tree_at trees c.in-Some.at.node.0)) c.if-not-pay.ensures;
      cost = c.cost_of_byte.result;
      some = omega (arith, c.cost_of_byte.ensures);
      paid = c.if-not-pay.ensures;
    }
