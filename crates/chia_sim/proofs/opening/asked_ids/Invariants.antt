use Rattle.std.proofs.Common.{◌≡◌, map}
use Rattle.serde_json.specs.View.{view}
use Rattle.session_spec.specs.Steps.{all_of}
use Rattle.session_spec.specs.FirstForm.{asked_by}
use Rattle.chia_sim.proofs.Turns.{read_from}
use Rattle.chia_sim.proofs.opening.asked_ids.Given as goal

abbrev pub invariant-loop-line : goal.invariant-loop-line
invariant-loop-line l = read_from view asked_by l.ids l.line-index l.lines ≡ all_of asked_by (map view l.lines)
