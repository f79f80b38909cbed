use Rattle.std.proofs.Common.{◌≡◌, map}
use Rattle.serde_json.specs.View.{view}
use Rattle.session_spec.specs.Steps.{all_of}
use Rattle.bundle_json.specs.Pairs.{pair_in}
use Rattle.bundle_json.proofs.Turns.{read_from}
use Rattle.bundle_json.proofs.attested.pairs_of.Given as goal

abbrev pub invariant-loop-pair : goal.invariant-loop-pair
invariant-loop-pair l = read_from view pair_in l.attested l.pair-index l.list ≡ all_of pair_in (map view l.list)
