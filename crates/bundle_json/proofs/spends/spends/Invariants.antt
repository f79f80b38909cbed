use Rattle.std.proofs.Common.{◌≡◌, map}
use Rattle.serde_json.specs.View.{view}
use Rattle.session_spec.specs.Results.{each_of}
use Rattle.session_spec.specs.BundleMembers.{spend_in}
use Rattle.bundle_json.specs.Codes.{modules_of}
use Rattle.bundle_json.proofs.Turns.{tried_from}
use Rattle.bundle_json.proofs.spends.spends.Given as goal

abbrev pub invariant-loop-fields : goal.invariant-loop-fields
invariant-loop-fields l =
    let read = spend_in (modules_of l.codes) in tried_from view read l.spends l.fields-index l.list ≡ each_of read (map view l.list)
