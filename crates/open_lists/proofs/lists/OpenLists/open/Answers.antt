use Rattle.std.proofs.Common.{rules, length, arith, sym, ◌∙◌, ap}
use Rattle.clvm_spec.specs.declared.scan_kind.ScanKind.TheVariants as kind
use Rattle.clvm_spec.specs.Tokens.{Opening, Took}
use Rattle.open_lists.specs.Held.{held}
use Rattle.open_lists.proofs.HeldLaws.{held_begun}
use Rattle.open_lists.proofs.ListLaws.{refuses_opening, deep_in}
use Rattle.open_lists.proofs.StepLaws.{told_breaks, open_leads, first_leads}
use Rattle.open_lists.proofs.lists.OpenLists.open.Goals as goal

pub returns-then-not-takes_form-clause-stops : goal.returns-then-not-takes_form-clause-stops
returns-then-not-takes_form-clause-stops g c = λ r from rest e.
    let list = c.in-Some.list in
    told_breaks r c.args.self.now.lists.items c.pop.new.self.items list c.in-Some.ensures.items c.as_slice-lists.result.now kind.Dot (r.placed c.args.place) (r.language.place from) c.fault_in.result (Took Opening from rest)
    c.as_slice-lists.ensures.value (c.fault_in.ensures r)
    (refuses_opening r _ list (sym c.takes_form.ensures ∙ c.if-not-takes_form.true) from rest) e

pub returns-then-lists-clause-stops : goal.returns-then-lists-clause-stops
returns-then-lists-clause-stops g c = λ r from rest e.
    let list = c.in-Some.list in
    told_breaks r c.args.self.now.lists.items c.pop.new.self.items list c.in-Some.ensures.items c.as_slice-lists.result.now kind.Deep (r.placed c.args.place) (r.language.place from) c.fault_in-then-lists.result (Took Opening from rest)
    c.as_slice-lists.ensures.value (c.fault_in-then-lists.ensures r)
    (deep_in r _ list from rest (sym c.takes_form.ensures ∙ c.if-not-takes_form.false) (omega (arith, c.if-lists.true, ap length c.as_slice-lists.ensures.value))) e

pub returns-in_ok-push-in-None-clause-takes : goal.returns-in_ok-push-in-None-clause-takes
returns-in_ok-push-in-None-clause-takes g c = λ r from rest e.
    first_leads r c.args.self.now.lists.items c.push.new.self.items c.new-begun.result c.args.place from rest (search rules) (search rules) c.new-begun.ensures.place c.new-begun.ensures.forms c.new-begun.ensures.reach e

pub returns-in_ok-push-in-Some-2-clause-takes : goal.returns-in_ok-push-in-Some-2-clause-takes
returns-in_ok-push-in-Some-2-clause-takes g c = λ r from rest e.
    let list = c.in-Some.list in
    open_leads r c.args.self.now.lists.items c.pop.new.self.items list c.in-Some.ensures.items c.push-in-Some.new.self.items c.push-in-Some-2.new.self.items c.new-begun.result c.args.place from rest
    c.in_ok-push-in-Some.ensures.items c.in_ok-push-in-Some-2.ensures.items c.new-begun.ensures.place c.new-begun.ensures.forms c.new-begun.ensures.reach (sym c.takes_form.ensures ∙ c.if-not-takes_form.false) (omega (arith, c.if-lists.false, ap length c.as_slice-lists.ensures.value)) e

pub returns-in_ok-push-in-Some-2-clause-holds : goal.returns-in_ok-push-in-Some-2-clause-holds
returns-in_ok-push-in-Some-2-clause-holds g c =
    held_begun c.push-in-Some-2.new.self.items c.push-in-Some.new.self.items c.new-begun.result c.in_ok-push-in-Some-2.ensures.items c.new-begun.ensures.forms c.new-begun.ensures.reach
    ∙ ap held (c.in_ok-push-in-Some.ensures.items ∙ sym c.in-Some.ensures.items)
