use Rattle.std.proofs.Common.{◌∙◌, sym, ap}
use Rattle.open_lists.specs.Faults.{first_unknown}
use Rattle.open_lists.proofs.FaultLaws.{unknown_tells, dot_tells, dot_keeps, none_keeps, none_of}
use Rattle.open_lists.proofs.list.OpenList.told.Goals as goal

pub returns-in-Some : goal.returns-in-Some
returns-in-Some g c =
    unknown_tells g.row.M.Denot g.row.Q.Denot g.F.TextForm.unknown c.args.self.now c.args.kind c.in-Some.name
    (sym (c.first_unknown.ensures ∙ ap (first_unknown g.F.TextForm.unknown) c.as_slice.ensures.value) ∙ c.in-Some.is)

pub returns-then-is_dots_fault : goal.returns-then-is_dots_fault
returns-then-is_dots_fault g c =
    dot_tells g.row.M.Denot g.row.Q.Denot g.F.TextForm.unknown c.args.self.now c.args.kind c.in-Some-dot.dot
    (sym (c.first_unknown.ensures ∙ ap (first_unknown g.F.TextForm.unknown) c.as_slice.ensures.value) ∙ none_of c.first_unknown.result c.in_default.not-Some)
    (sym c.dot.ensures ∙ c.in-Some-dot.is) (sym c.is_dots_fault.ensures ∙ c.if-is_dots_fault.true)

pub returns-else-is_dots_fault : goal.returns-else-is_dots_fault
returns-else-is_dots_fault g c =
    dot_keeps g.row.M.Denot g.row.Q.Denot g.F.TextForm.unknown c.args.self.now c.args.kind c.in-Some-dot.dot
    (sym (c.first_unknown.ensures ∙ ap (first_unknown g.F.TextForm.unknown) c.as_slice.ensures.value) ∙ none_of c.first_unknown.result c.in_default.not-Some)
    (sym c.dot.ensures ∙ c.in-Some-dot.is) (sym c.is_dots_fault.ensures ∙ c.if-is_dots_fault.false)

pub returns-in-None : goal.returns-in-None
returns-in-None g c =
    none_keeps g.row.M.Denot g.row.Q.Denot g.F.TextForm.unknown c.args.self.now c.args.kind
    (sym (c.first_unknown.ensures ∙ ap (first_unknown g.F.TextForm.unknown) c.as_slice.ensures.value) ∙ none_of c.first_unknown.result c.in_default.not-Some)
    (sym c.dot.ensures ∙ c.in-None.is)
