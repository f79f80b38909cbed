use Rattle.std.proofs.Common.{true, false, sym, ◌∙◌}
use Rattle.bundle_json.proofs.ValueLaws.{objects-list}
use Rattle.bundle_json.proofs.values.objects.Goals as goal

pub returns-then-are_objects : goal.returns-then-are_objects
returns-then-are_objects c =
    sym (objects-list _ c.in_ok-list.list.now true (sym c.in_ok-list.ensures) (sym c.are_objects.ensures ∙ c.if-are_objects.true))

pub returns-else-are_objects : goal.returns-else-are_objects
returns-else-are_objects c =
    sym (objects-list _ c.in_ok-list.list.now false (sym c.in_ok-list.ensures) (sym c.are_objects.ensures ∙ c.if-are_objects.false))
