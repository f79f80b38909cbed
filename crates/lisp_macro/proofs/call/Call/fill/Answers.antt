use Rattle.std.proofs.Common.{◌≡◌, false, codes, ap, sym, ◌∙◌}
use Rattle.lisp_read.specs.Views.{form_of}
use Rattle.lisp_read.specs.FormLists.{is_symbol}
use Rattle.lisp_macro.specs.Calls.{call_of}
use Rattle.lisp_macro.proofs.BodyLaws.{whole, filled}
use Rattle.lisp_macro.proofs.call.Call.fill.Goals as goal

pub returns-in_ok-push-in-Pair : goal.returns-in_ok-push-in-Pair
returns-in_ok-push-in-Pair c =
    let first : form_of c.get-in-Pair.result.now ≡ c.in-Pair.first = c.get-in-Pair.ensures in
    let other : is_symbol (codes "unquote") (form_of c.get-in-Pair.result.now) ≡ false = ap (is_symbol (codes "unquote")) (first ∙ sym c.get.ensures) ∙ sym c.is_symbol.ensures ∙ c.if-is_symbol.false in
    filled (call_of c.args.self.now) c.args.frames.now.items c.push.new.self.items c.args.turns (form_of c.args.template.now) c.in-Pair.place c.get-in-Pair.result c.get-in-Pair-2.result
    (whole _ _ _ _ _ _ (ap form_of c.in-Pair.is) first c.get-in-Pair-2.ensures) other c.in_ok-push-in-Pair.ensures.items
