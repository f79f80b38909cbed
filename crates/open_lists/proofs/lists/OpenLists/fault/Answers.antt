use Rattle.std.proofs.Common.{refl}
use Rattle.clvm_spec.specs.declared.scan_kind.ScanKind.TheVariants as kind
use Rattle.clvm_spec.specs.Tokens.{Unread}
use Rattle.open_lists.proofs.ListLaws.{unread_in, no_other_in}
use Rattle.open_lists.proofs.StepLaws.{told_stops}
use Rattle.open_lists.proofs.lists.OpenLists.fault.Goals as goal

pub returns-in-Last : goal.returns-in-Last
returns-in-Last g c = λ r from e.
    let list = c.in-Some.list in
    told_stops r c.args.self.lists.items c.pop.new.self.items list c.in-Some.ensures.items c.as_slice.result.now kind.Dot (r.placed c.in-Last.dot) (r.placed c.in-Last.dot) c.fault_in.result (Unread c.args.kind from)
    c.as_slice.ensures.value (c.fault_in.ensures r)
    (no_other_in r _ list c.in-Last.dot c.in-Last.field-1 c.args.kind from c.in-Last.is) refl

pub returns : goal.returns
returns g c = λ r from e.
    let list = c.in-Some.list in
    told_stops r c.args.self.lists.items c.pop.new.self.items list c.in-Some.ensures.items c.as_slice-in_default.result.now c.args.kind (r.placed c.args.place) (r.language.place from) c.fault_in-in_default.result (Unread c.args.kind from)
    c.as_slice-in_default.ensures.value (c.fault_in-in_default.ensures r)
    (unread_in r _ list c.args.kind from c.in_default.not-Last) e
