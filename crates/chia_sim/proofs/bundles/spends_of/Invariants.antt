use Rattle.std.proofs.Common.{◌≡◌, map}
use Rattle.serde_json.specs.View.{view}
use Rattle.session_spec.specs.Steps.{all_of}
use Rattle.session_spec.specs.Bundles.{spend}
use Rattle.chia_sim.proofs.Turns.{read_from}
use Rattle.chia_sim.proofs.bundles.spends_of.Given as goal

abbrev pub invariant-loop-value : goal.invariant-loop-value
invariant-loop-value l = read_from view spend l.spends l.value-index l.values ≡ all_of spend (map view l.values)
