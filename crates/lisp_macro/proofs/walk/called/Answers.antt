use Rattle.std.proofs.Common.{ap₂, sym, ◌∙◌}
use Rattle.lisp_spec.specs.Expansion.{call_kind}
use Rattle.lisp_macro.proofs.walk.called.Goals as goal

pub returns-then-is_list : goal.returns-then-is_list
returns-then-is_list c = (c.args.name.now, ap₂ call_kind c.in-Some.ensures (sym c.is_list.ensures ∙ c.if-is_list.true))
