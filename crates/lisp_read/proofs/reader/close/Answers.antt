use Rattle.std.proofs.Common.{sym, ◌∙◌, ap}
use Rattle.clvm_spec.specs.Tokens.{Closing}
use Rattle.clvm_spec.specs.Grammar.{Parses}
use Rattle.open_lists.specs.Lists.{resumed}
use Rattle.lisp_read.specs.Parsing.{reading}
use Rattle.lisp_read.proofs.StepLaws.{put_leads, put_stops}
use Rattle.lisp_read.proofs.reader.close.Goals as goal

pub returns-clause-leads : goal.returns-clause-leads
returns-clause-leads c =
    put_leads Closing c.args.place c.args.lists.now.lists.items c.close.new.self.lists.items c.put.new.self.lists.items c.in_ok-form.form c.put.result c.put.ensures.leads
    (λ there from rest e. c.in_ok-list.ensures.closes (reading there) from rest e ∙ ap (λ form. resumed (reading there) 0 c.close.new.self.lists.items (Parses form rest)) (sym (c.in_ok-form.ensures there)))

pub returns-clause-stops : goal.returns-clause-stops
returns-clause-stops c =
    put_stops Closing c.args.place c.args.lists.now.lists.items c.close.new.self.lists.items c.in_ok-form.form c.put.result c.put.ensures.stops
    (λ there from rest e. c.in_ok-list.ensures.closes (reading there) from rest e ∙ ap (λ form. resumed (reading there) 0 c.close.new.self.lists.items (Parses form rest)) (sym (c.in_ok-form.ensures there)))
