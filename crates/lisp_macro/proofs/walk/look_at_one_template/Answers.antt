use Rattle.std.proofs.Common.{refl, ap, sym, ◌∙◌}
use Rattle.lisp_read.specs.declared.form.Form.TheVariants.{Pair}
use Rattle.lisp_read.specs.FormLists.{is_empty}
use Rattle.lisp_macro.proofs.WalkLaws.{one_template_looked, no_template_law, kept_whole}
use Rattle.lisp_macro.proofs.walk.look_at_one_template.Goals as goal

pub returns-then-not-is_nil : goal.returns-then-not-is_nil
returns-then-not-is_nil c = λ macros turns.
    kept_whole macros c.args.levels.now.items c.args.levels.now.items turns c.args.pair.outer c.args.pair.place c.args.pair.first c.args.pair.rest (Pair c.args.pair.place c.args.pair.first c.args.pair.rest) _ refl
    (no_template_law macros c.args.pair.outer c.args.pair.place c.args.pair.first c.args.pair.rest turns (ap is_empty (sym c.get.ensures) ∙ sym c.is_nil.ensures ∙ c.if-not-is_nil.true))

pub returns : goal.returns
returns c = λ macros turns.
    one_template_looked macros c.args.levels.now.items c.push.new.self.items turns c.args.pair.outer c.args.pair.place c.args.pair.first c.args.pair.rest c.into_inner.result c.into_inner.ensures
    (ap is_empty (sym c.get.ensures) ∙ sym c.is_nil.ensures ∙ c.if-not-is_nil.false) c.in_ok-push.ensures.items
