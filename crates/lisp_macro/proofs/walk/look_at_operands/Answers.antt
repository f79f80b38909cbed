use Rattle.std.proofs.Common.{codes, ap, sym, ◌∙◌}
use Rattle.lisp_read.specs.FormLists.{is_symbol}
use Rattle.lisp_macro.proofs.WalkLaws.{operands_looked, unquote_looked}
use Rattle.lisp_macro.proofs.walk.look_at_operands.Goals as goal

pub returns : goal.returns
returns c = λ macros turns.
    operands_looked macros c.args.levels.now.items c.push.new.self.items turns c.args.pair.outer c.args.pair.place c.args.pair.first c.args.pair.rest c.into_inner.result c.into_inner.ensures c.in_ok-push.ensures.items
