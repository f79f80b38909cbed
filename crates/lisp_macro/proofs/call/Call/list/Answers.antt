use Rattle.std.proofs.Common.{ap}
use Rattle.lisp_read.specs.Views.{form_of}
use Rattle.lisp_macro.specs.Calls.{call_of}
use Rattle.lisp_macro.proofs.BodyLaws.{whole, listed}
use Rattle.lisp_macro.proofs.call.Call.list.Goals as goal

pub returns-in_ok-push-in-Pair : goal.returns-in_ok-push-in-Pair
returns-in_ok-push-in-Pair c =
    listed (call_of c.args.self.now) c.args.frames.now.items c.push.new.self.items c.args.turns (form_of c.args.operands.now) c.in-Pair.field-0 c.get.result c.get-in-Pair.result
    (whole _ _ _ _ _ _ (ap form_of c.in-Pair.is) c.get.ensures c.get-in-Pair.ensures) c.in_ok-push-in-Pair.ensures.items
