use Rattle.std.proofs.Common.{◌≡◌, codes, ap, sym, ◌∙◌}
use Rattle.lisp_read.specs.FormLists.{is_symbol}
use Rattle.lisp_macro.proofs.WalkLaws.{template_looked, unquote_looked}
use Rattle.lisp_macro.proofs.walk.look_at_template.Goals as goal

pub returns-then-is_symbol : goal.returns-then-is_symbol
returns-then-is_symbol c = λ macros turns.
    unquote_looked macros c.args.levels.now.items c.push.new.self.items turns c.args.pair.outer c.args.pair.place c.args.pair.first c.args.pair.rest c.into_inner.result c.into_inner.ensures
    (ap (is_symbol (codes "unquote")) (sym c.get.ensures) ∙ sym c.is_symbol.ensures ∙ c.if-is_symbol.true) c.in_ok-push.ensures.items

pub returns : goal.returns
returns c = λ macros turns.
    template_looked macros c.args.levels.now.items c.push-2.new.self.items turns c.args.pair.outer c.args.pair.place c.args.pair.first c.args.pair.rest c.into_inner-2.result c.into_inner-2.ensures
    (ap (is_symbol (codes "unquote")) (sym c.get.ensures) ∙ sym c.is_symbol.ensures ∙ c.if-is_symbol.false) c.in_ok-push-2.ensures.items
