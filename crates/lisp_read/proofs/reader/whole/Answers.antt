use Rattle.std.proofs.Common.{sym, ◌∙◌, ap}
use Rattle.open_lists.specs.Lists.{folded}
use Rattle.open_lists.proofs.ListLaws.{folded_push}
use Rattle.lisp_read.specs.Views.{form_of}
use Rattle.lisp_read.specs.Parsing.{reading}
use Rattle.lisp_read.proofs.reader.whole.Goals as goal

pub elements-preserved : goal.elements-preserved
elements-preserved c = λ there.
    let place = c.args.list.place in
    ap (folded (reading there) place c.pop.new.self.items) c.in_ok-rest.ensures
    ∙ sym (folded_push (reading there) place c.pop.new.self.items c.in-Some.first (form_of c.elements.rest))
    ∙ ap (λ forms. folded (reading there) place forms (form_of c.elements.rest)) (sym c.in-Some.ensures.items)
    ∙ c.elements.invariant there
