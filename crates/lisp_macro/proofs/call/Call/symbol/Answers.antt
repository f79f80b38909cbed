use Rattle.lisp_read.specs.Forms.{Symbol}
use Rattle.lisp_read.specs.Views.{form_of}
use Rattle.std.proofs.Common.{Some, ap, sym, ◌∙◌}
use Rattle.lisp_macro.specs.declared.call.Found.TheVariants as found
use Rattle.lisp_macro.proofs.BindingLaws.{symbol_stands}
use Rattle.lisp_macro.proofs.call.Call.symbol.Goals as goal

pub returns-in-At : goal.returns-in-At
returns-in-At c = symbol_stands c.args.name.now (Symbol c.args.place c.args.name.now) (form_of c.args.self.now.params.now) c.args.self.now.operands.now c.in_ok-value.field-0 (found.At c.in-At.value) c.in_ok-value.ensures c.in-At.is

pub returns-in-Astray : goal.returns-in-Astray
returns-in-Astray c = symbol_stands c.args.name.now (Symbol c.args.place c.args.name.now) (form_of c.args.self.now.params.now) c.args.self.now.operands.now c.in_ok-value.field-0 found.Astray c.in_ok-value.ensures c.in-Astray.is

pub returns-in_ok-symbol-in-NoParameter : goal.returns-in_ok-symbol-in-NoParameter
returns-in_ok-symbol-in-NoParameter c =
    symbol_stands c.args.name.now (Symbol c.args.place c.args.name.now) (form_of c.args.self.now.params.now) c.args.self.now.operands.now c.in_ok-value.field-0 found.NoParameter c.in_ok-value.ensures c.in-NoParameter.is
    ∙ ap Some (sym c.in_ok-symbol-in-NoParameter.ensures)
