use Rattle.std.proofs.Common.{sym, ◌∙◌}
use Rattle.clvm_spec.specs.declared.scan_kind.ScanKind.TheVariants as kind
use Rattle.clvm_spec.specs.Grammar.{Parses}
use Rattle.open_lists.proofs.ListLaws.{refuses_form, next_in}
use Rattle.open_lists.proofs.HeldLaws.{held_put}
use Rattle.open_lists.proofs.StepLaws.{resumed_breaks, put_leads}
use Rattle.open_lists.proofs.lists.OpenLists.put.Goals as goal

pub returns-then-not-takes_form-clause-stops : goal.returns-then-not-takes_form-clause-stops
returns-then-not-takes_form-clause-stops g c = λ r rest.
    let list = c.in-Some.list in
    resumed_breaks r c.args.self.now.lists.items c.pop.new.self.items list c.in-Some.ensures.items c.as_slice-lists.result.now kind.Dot (r.placed c.args.place) c.fault_in.result (Parses (r.meant c.args.form) rest)
    c.as_slice-lists.ensures.value (c.fault_in.ensures r)
    (refuses_form r _ list c.args.form rest (r.placed c.args.place) (sym c.takes_form.ensures ∙ c.if-not-takes_form.true))

pub returns-in_ok-push-in-Ok-clause-leads : goal.returns-in_ok-push-in-Ok-clause-leads
returns-in_ok-push-in-Ok-clause-leads g c = λ r rest.
    let list = c.in-Some.list in
    put_leads r c.args.self.now.lists.items c.pop.new.self.items list c.in-Some.ensures.items c.push.new.self.items c.in-Ok.next c.args.form rest
    c.in_ok-push-in-Ok.ensures.items
    (next_in r _ list c.in-Ok.next c.args.form rest (sym c.takes_form.ensures ∙ c.if-not-takes_form.false) c.in-Ok.ensures.place c.in-Ok.ensures.forms c.in-Ok.ensures.reach)

pub returns-in_ok-push-in-Ok-clause-holds : goal.returns-in_ok-push-in-Ok-clause-holds
returns-in_ok-push-in-Ok-clause-holds g c =
    held_put c.args.self.now.lists.items c.pop.new.self.items c.push.new.self.items c.in-Some.list c.in-Ok.next c.args.form c.in-Some.ensures.items c.in_ok-push-in-Ok.ensures.items
    (sym c.takes_form.ensures ∙ c.if-not-takes_form.false) c.in-Ok.ensures.forms c.in-Ok.ensures.reach
