use Rattle.std.proofs.Common.{sym, ◌∙◌}
use Rattle.clvm_spec.specs.declared.scan_kind.ScanKind.TheVariants as kind
use Rattle.clvm_spec.specs.Tokens.{Closing, Took}
use Rattle.open_lists.specs.Lists.{whole}
use Rattle.open_lists.proofs.ListLaws.{refuses_closing, ends_in}
use Rattle.open_lists.proofs.HeldLaws.{held_last}
use Rattle.open_lists.proofs.StepLaws.{told_breaks, end_leads}
use Rattle.open_lists.proofs.lists.OpenLists.close.Goals as goal

pub returns-then-not-takes_end-clause-stops : goal.returns-then-not-takes_end-clause-stops
returns-then-not-takes_end-clause-stops g c = λ r from rest e.
    let list = c.in-Some.list in
    told_breaks r c.args.self.now.lists.items c.pop.new.self.items list c.in-Some.ensures.items c.as_slice-lists.result.now kind.Close (r.placed c.args.place) (r.language.place from) c.fault_in.result (Took Closing from rest)
    c.as_slice-lists.ensures.value (c.fault_in.ensures r)
    (refuses_closing r _ list (sym c.takes_end.ensures ∙ c.if-not-takes_end.true) from rest) e

pub returns-else-not-takes_end-clause-closes : goal.returns-else-not-takes_end-clause-closes
returns-else-not-takes_end-clause-closes g c = λ r from rest e.
    let list = c.in-Some.list in
    end_leads r c.args.self.now.lists.items c.pop.new.self.items list c.in-Some.ensures.items (whole r list) from rest
    (ends_in r _ list from rest (sym c.takes_end.ensures ∙ c.if-not-takes_end.false))

pub returns-else-not-takes_end-clause-holds : goal.returns-else-not-takes_end-clause-holds
returns-else-not-takes_end-clause-holds g c = held_last c.args.self.now.lists.items c.pop.new.self.items c.in-Some.list c.in-Some.ensures.items
