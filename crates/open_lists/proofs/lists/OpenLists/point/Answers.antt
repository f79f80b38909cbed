use Rattle.std.proofs.Common.{suc, ◌+◌, length, sym, ◌∙◌, ap}
use Rattle.clvm_spec.specs.declared.scan_kind.ScanKind.TheVariants as kind
use Rattle.clvm_spec.specs.Tokens.{Point, Took, token_of}
use Rattle.open_lists.specs.Lists.{read_in}
use Rattle.open_lists.proofs.ListLaws.{refuses_point, dot_in}
use Rattle.open_lists.proofs.HeldLaws.{held_dot}
use Rattle.open_lists.proofs.StepLaws.{told_breaks, dot_leads}
use Rattle.open_lists.proofs.lists.OpenLists.point.Goals as goal

pub returns-then-not-takes_dot-clause-stops : goal.returns-then-not-takes_dot-clause-stops
returns-then-not-takes_dot-clause-stops g c = λ r from rest e.
    let list = c.in-Some.list in
    told_breaks r c.args.self.now.lists.items c.pop.new.self.items list c.in-Some.ensures.items c.as_slice-lists.result.now kind.Dot (r.placed c.args.place) (r.language.place from) c.fault_in.result (Took Point from rest)
    c.as_slice-lists.ensures.value (c.fault_in.ensures r)
    (refuses_point r _ list (sym c.takes_dot.ensures ∙ c.if-not-takes_dot.true) from rest) e

pub returns-in_ok-push-in-Some-clause-takes : goal.returns-in_ok-push-in-Some-clause-takes
returns-in_ok-push-in-Some-clause-takes g c = λ r from rest e.
    let list = c.in-Some.list in
    dot_leads r c.args.self.now.lists.items c.pop.new.self.items list c.in-Some.ensures.items c.push.new.self.items c.with_dot.result from rest
    c.in_ok-push-in-Some.ensures.items (dot_in r _ list c.args.place from rest (sym c.takes_dot.ensures ∙ c.if-not-takes_dot.false) e ∙ ap (λ l. read_in r (suc (0 + length c.pop.new.self.items)) l (token_of rest)) (sym c.with_dot.ensures))

pub returns-in_ok-push-in-Some-clause-holds : goal.returns-in_ok-push-in-Some-clause-holds
returns-in_ok-push-in-Some-clause-holds g c =
    held_dot c.args.self.now.lists.items c.pop.new.self.items c.push.new.self.items c.in-Some.list c.with_dot.result c.args.place c.in-Some.ensures.items c.in_ok-push-in-Some.ensures.items
    (sym c.takes_dot.ensures ∙ c.if-not-takes_dot.false) c.with_dot.ensures
