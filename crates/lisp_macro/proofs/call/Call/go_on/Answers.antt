use Rattle.lisp_macro.specs.Calls.{call_of}
use Rattle.lisp_macro.proofs.BodyLaws.{operand_resumed, front_resumed}
use Rattle.lisp_macro.proofs.call.Call.go_on.Goals as goal

pub returns-in_ok-push-in-Operand : goal.returns-in_ok-push-in-Operand
returns-in_ok-push-in-Operand c =
    operand_resumed (call_of c.args.self.now) c.args.frames.now.items c.push.new.self.items c.args.turns c.args.frame c.in-Operand.operand c.args.value c.in-Operand.is c.in_ok-push-in-Operand.ensures.items

pub returns-in_ok-push-in-Front : goal.returns-in_ok-push-in-Front
returns-in_ok-push-in-Front c =
    front_resumed (call_of c.args.self.now) c.args.frames.now.items c.push-in-Front.new.self.items c.args.turns c.args.frame c.in-Front.place c.in-Front.template c.args.value c.in-Front.is c.in_ok-push-in-Front.ensures.items
