use Rattle.std.proofs.Common.{◌≡◌, Some, sym, ◌∙◌, ap, arith}
use Rattle.clvm_spec.specs.Outcomes.{Done}
use Rattle.clvm_spec.specs.declared.costs.TheConstants.{QUOTE_COST}
use Rattle.clvm_spec.specs.Evaluation.{is_code}
use Rattle.clvm_spec.specs.OperatorTable.{quote_code}
use Rattle.clvm_tree.specs.Nodes.{tree_at}
use Rattle.clvm_eval.proofs.EvaluationLaws.{ev-pair, ev-quoted, charge-paid, charge-short}
use Rattle.clvm_eval.proofs.QuickLaws.{byte_is}
use Rattle.clvm_eval.proofs.evaluate.begin_pair.Goals as goal

pub returns-in-Some-as_pair : goal.returns-in-Some-as_pair
returns-in-Some-as_pair c = rw c.no_operator_at.ensures (λ depth.
    let trees = c.args.trees.now in
    record {
      raised_known = tt;
      form_known = c.requires.program_known;
      failed = ev-pair (tree_at trees c.args.program.0) (tree_at trees c.args.env.0) depth c.args.left.now (tree_at trees c.args.head.0) (tree_at trees c.args.rest.0) _ _ c.requires.parts.pair c.in-Some-as_pair.ensures.pair;
    })

pub returns-then-not-pay : goal.returns-then-not-pay
returns-then-not-pay c = λ depth.
    let trees = c.args.trees.now in
    let byte : c.in-Some-eq1.field-0 ≡ quote_code = cc in
    ev-quoted (tree_at trees c.args.program.0) (tree_at trees c.args.env.0) depth c.args.left.now (tree_at trees c.args.head.0) (tree_at trees c.args.rest.0) c.requires.parts.pair (ap (is_code quote_code) (byte_is (tree_at trees c.args.head.0) quote_code (sym c.byte_of.ensures ∙ c.in-Some-eq1.is ∙ ap Some byte)))
    ∙ charge-short QUOTE_COST c.args.left.now (Done (tree_at trees c.args.rest.0)) c.if-not-pay.ensures

pub returns-else-not-pay : goal.returns-else-not-pay
returns-else-not-pay c =
    let trees = c.args.trees.now in
    let byte : c.in-Some-eq1.field-0 ≡ quote_code = omega (arith, c.in-Some-eq1.field-0-test) in
    let program = c.requires.program_known in
    record {
      known = omega (arith, c.requires.parts.rest_earlier, program);
      done = λ depth.
          ev-quoted (tree_at trees c.args.program.0) (tree_at trees c.args.env.0) depth c.args.left.now (tree_at trees c.args.head.0) (tree_at trees c.args.rest.0) c.requires.parts.pair (ap (is_code quote_code) (byte_is (tree_at trees c.args.head.0) quote_code (sym c.byte_of.ensures ∙ c.in-Some-eq1.is ∙ ap Some byte)))
          ∙ charge-paid QUOTE_COST c.args.left.now c.pay.new.left (Done (tree_at trees c.args.rest.0)) c.if-not-pay.ensures;
      cost = QUOTE_COST;
      some = omega arith;
      paid = c.if-not-pay.ensures;
    }
