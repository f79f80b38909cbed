use Rattle.std.proofs.Common.{subst, sym, ap, ◌∙◌}
use Rattle.lisp_spec.specs.ExpressionWeights.{module_bound}
use Rattle.lisp_module.specs.Views.{IsOfText}
use Rattle.lisp_module.proofs.Small.{module_is, is_of_text, bound_is}
use Rattle.lisp_module.proofs.tests.small_module.Goals as goal

pub new-requires-clause-text : goal.new-requires-clause-text
new-requires-clause-text c =
    subst IsOfText (module_is c.in_ok-params.params c.in_ok-body.body c.new-constants.result.items c.new-functions.result.items c.new-inlines.result.items
    c.in_ok-params.ensures c.in_ok-body.ensures c.new-constants.ensures.items c.new-functions.ensures.items c.new-inlines.ensures.items) is_of_text

pub new-requires-clause-bound : goal.new-requires-clause-bound
new-requires-clause-bound c =
    sym bound_is ∙ ap module_bound (module_is c.in_ok-params.params c.in_ok-body.body c.new-constants.result.items c.new-functions.result.items c.new-inlines.result.items
    c.in_ok-params.ensures c.in_ok-body.ensures c.new-constants.ensures.items c.new-functions.ensures.items c.new-inlines.ensures.items)
