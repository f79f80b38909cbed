use Rattle.std.proofs.Common.{sym, ◌∙◌, ap, arith}
use Rattle.clvm_spec.specs.Outcomes.{NoStep, Done, Failed}
use Rattle.clvm_spec.specs.Evaluation.{charge, at_path}
use Rattle.clvm_tree.specs.Nodes.{tree_at}
use Rattle.clvm_eval.proofs.EvaluationLaws.{ev-path, charge-paid, charge-short}
use Rattle.clvm_eval.proofs.evaluate.evaluate_path.Goals as goal

pub returns-in_default : goal.returns-in_default
returns-in_default c = λ depth.
    let trees = c.args.trees.now in
    let path = c.args.path.now in
    record {
      raised_known = tt;
      form_known = c.requires.program_known;
      failed = ev-path (tree_at trees c.args.program.0) (tree_at trees c.args.env.0) depth c.args.left.now path c.requires.path
          ∙ ap (λ r. at_path path r c.args.left.now) c.in_default.ensures ∙ ap (Failed NoStep) (sym c.requires.path);
    }

pub returns-then-not-pay : goal.returns-then-not-pay
returns-then-not-pay c = λ depth.
    let trees = c.args.trees.now in
    let path = c.args.path.now in
    let left = c.args.left.now in
    ev-path (tree_at trees c.args.program.0) (tree_at trees c.args.env.0) depth left path c.requires.path
    ∙ ap (λ r. at_path path r left) c.in-Some.ensures.reached
    ∙ ap (λ k. charge k left (Done (tree_at trees c.in-Some.at.node.0))) (sym c.cost_of_path.ensures)
    ∙ charge-short c.cost_of_path.result left (Done (tree_at trees c.in-Some.at.node.0)) c.if-not-pay.ensures

pub returns : goal.returns
returns c =
    let trees = c.args.trees.now in
    let path = c.args.path.now in
    let left = c.args.left.now in
    record {
      known = c.in-Some.ensures.known;
      done = λ depth.
          ev-path (tree_at trees c.args.program.0) (tree_at trees c.args.env.0) depth left path c.requires.path
          ∙ ap (λ r. at_path path r left) c.in-Some.ensures.reached
          ∙ ap (λ k. charge k left (Done (tree_at trees c.in-Some.at.node.0))) (sym c.cost_of_path.ensures)
          ∙ charge-paid c.cost_of_path.result left c.pay.new.left (Done (tree_at trees c.in-Some.at.node.0)) c.if-not-pay.ensures;
      cost = c.cost_of_path.result;
      some = omega (arith, c.cost_of_path.ensures);
      paid = c.if-not-pay.ensures;
    }
