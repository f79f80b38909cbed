use Rattle.std.proofs.Common.{◌≡◌, map}
use Rattle.serde_json.specs.View.{view}
use Rattle.session_spec.specs.Steps.{all_of}
use Rattle.session_spec.specs.Lines.{lines, object_of}
use Rattle.session_spec.proofs.AllOf.{with_front}
use Rattle.chia_sim.proofs.lines.objects.Given as goal

abbrev pub invariant-loop-line : goal.invariant-loop-line
invariant-loop-line l = record {
  can_next : (goal.iterator-loop-line).can_next l.line-iterator;
  is_finite : (goal.iterator-loop-line).is_finite l.line-iterator;
  read : with_front (map view l.objects.items) (all_of object_of l.line-iterator) ≡ all_of object_of (lines l.fn.input);
}
