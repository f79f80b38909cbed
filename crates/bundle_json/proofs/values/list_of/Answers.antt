use Rattle.std.proofs.Common.{Some, map, sym, ap, ◌∙◌}
use Rattle.serde_json.specs.View.{view}
use Rattle.bundle_json.proofs.ValueLaws.{values-list}
use Rattle.bundle_json.proofs.values.list_of.Goals as goal

pub returns : goal.returns
returns c =
    ap (λ list. Some (map view list)) c.as_slice.ensures.value
    ∙ sym (values-list _ c.in_ok-as_array.field-0.now.items (sym c.in_ok-as_array.ensures))
