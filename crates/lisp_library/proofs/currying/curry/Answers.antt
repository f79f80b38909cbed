use Rattle.std.proofs.Common.{◌∙◌, ◌-◌, drop, sym, ap, arith}
use Rattle.clvm_tree.specs.Operators.{trees_at}
use Rattle.clvm_tree.proofs.NodeLaws.{grows_on, grows_length, stays}
use Rattle.clvm_spec.specs.Currying.{environment_with}
use Rattle.lisp_library.proofs.Made.{known_at, known_later, from_one_before, one_argument_more}
use Rattle.lisp_library.proofs.currying.curry.Goals as goal

pub form-requires-clause-quoted_known : goal.form-requires-clause-quoted_known
form-requires-clause-quoted_known c =
    known_later c.args.trees.now c.loop-place.trees c.args.arguments.now (c.loop-place.place - 1) _ c.loop-place.invariant.grows c.requires.arguments_known (omega arith)

pub loop-place-preserved : goal.loop-place-preserved
loop-place-preserved c =
    let old = c.args.trees.now in
    let before = c.loop-place.trees in
    let after = c.form.new.trees in
    let kept = c.loop-place.invariant in
    let longer = grows_length before after c.form.ensures.grows in
    record {
      grows = grows_on old before after kept.grows c.form.ensures.grows;
      few = omega (arith, c.form.ensures.few, kept.few);
      apply_known = omega (arith, kept.apply_known, longer);
      apply = stays before after c.in_ok-apply.apply.0 c.form.ensures.grows kept.apply_known ∙ kept.apply;
      cons_known = omega (arith, kept.cons_known, longer);
      cons = stays before after c.in_ok-cons.cons.0 c.form.ensures.grows kept.cons_known ∙ kept.cons;
      known = c.in_ok-environment.ensures.known;
      environment = c.in_ok-environment.ensures.stands
          ∙ one_argument_more old before _ _ _ (drop c.loop-place.place c.args.arguments.now) kept.grows
          (known_at old c.args.arguments.now (c.loop-place.place - 1) _ c.requires.arguments_known (omega arith)) kept.cons kept.environment
          ∙ ap (λ nodes. environment_with (trees_at old nodes)) (sym (from_one_before c.args.arguments.now c.loop-place.place _ (omega arith) (omega arith)));
    }
