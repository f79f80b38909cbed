use Rattle.lisp_read.specs.Views.{form_of}
use Rattle.lisp_macro.proofs.WalkLaws.{first_done}
use Rattle.lisp_macro.proofs.walk.go_on.Goals as goal

pub returns-in_ok-push-in-First : goal.returns-in_ok-push-in-First
returns-in_ok-push-in-First c = λ macros turns.
    first_done macros c.args.levels.now.items c.push.new.self.items turns c.args.level c.in-First.place c.in-First.part c.in-First.outer c.in-First.rest (form_of c.args.form) c.in_ok-part_done.part_done c.into_inner.result
    c.in-First.is c.into_inner.ensures c.in_ok-part_done.ensures c.in_ok-push-in-First.ensures.items
