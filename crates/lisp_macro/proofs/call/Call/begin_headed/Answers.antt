use Rattle.std.proofs.Common.{◌∙◌, sym}
use Rattle.lisp_read.specs.Views.{form_of}
use Rattle.lisp_macro.specs.Calls.{call_of}
use Rattle.lisp_macro.proofs.BodyLaws.{branched, operated}
use Rattle.lisp_macro.proofs.call.Call.begin_headed.Goals as goal

pub returns-in_ok-push-in-Branches : goal.returns-in_ok-push-in-Branches
returns-in_ok-push-in-Branches c =
    branched (call_of c.args.self.now) c.args.frames.now.items c.push.new.self.items c.args.turns c.args.head (form_of c.args.rest.now) c.in-Some-three.condition c.in-Some-three.second c.in-Some-three.third c.in-Branches.is c.in-Some-three.ensures c.in_ok-push-in-Branches.ensures.items

pub returns-in_ok-push-in-Operation : goal.returns-in_ok-push-in-Operation
returns-in_ok-push-in-Operation c =
    operated (call_of c.args.self.now) c.args.frames.now.items c.push-in-Operation.new.self.items c.args.turns c.args.head c.in-Operation.operator c.args.rest c.in-Operation.is (sym c.suits.ensures ∙ c.if-not-suits.false) c.in_ok-push-in-Operation.ensures.items
