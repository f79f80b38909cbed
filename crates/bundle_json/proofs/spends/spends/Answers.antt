use Rattle.std.proofs.Common.{◌+◌, sym, ap, ◌∙◌}
use Rattle.serde_json.specs.View.{view}
use Rattle.session_spec.specs.BundleMembers.{spend_in}
use Rattle.bundle_json.specs.Codes.{modules_of}
use Rattle.bundle_json.proofs.Turns.{tried_from, tried_from-read}
use Rattle.bundle_json.proofs.spends.spends.Goals as goal

pub loop-fields-preserved : goal.loop-fields-preserved
loop-fields-preserved c =
    let read = spend_in (modules_of c.args.codes.now) in
    let place = c.loop-fields.fields-index in
    ap (λ found. tried_from view read found (place + 1) c.args.list.now) c.in_ok-push.ensures.ok
    ∙ sym
    (tried_from-read view read c.loop-fields.spends c.args.list.now place c.fields-item.result c.in_ok-spend.spend c.loop-fields-test.true
    c.fields-item.is c.in_ok-spend.ensures)
    ∙ c.loop-fields.invariant
