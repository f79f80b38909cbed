use Rattle.std.proofs.Common.{◌≤◌, ◌+◌}
use Rattle.lisp_spec.specs.InclusionLaws.{AreNumbered}
use Rattle.ports_io.specs.Outside.{Stays}
use Rattle.lisp_parts.specs.Steps.{IsKnown, texts_left}
use Rattle.lisp_parts.specs.Walks.{walk_of, IsNamed}
use Rattle.lisp_parts.proofs.WalkLaws.{IsLeft}
use Rattle.lisp_parts.proofs.LevelLaws.{levels_left, AllAscii}
use Rattle.lisp_parts.proofs.walk.definitions.Given as goal

abbrev pub invariant-levels : goal.invariant-levels
invariant-levels g l = record {
  numbered : AreNumbered (walk_of l.walk);
  named : IsNamed l.walk;
  symbols : AllAscii l.levels.items;
  known : IsKnown (g.B.Library.texts l.fn.library) l.walk.included (IsLeft l.fn.forms l.levels.items (walk_of l.walk));
  told : Stays (g.B.Library.texts l.fn.library) (g.B.Library.texts l.library);
  later : g.B.Library.faults l.fn.library ≤ g.B.Library.faults l.library;
}

abbrev pub decreases-levels : goal.decreases-levels
decreases-levels g l = texts_left (walk_of l.walk) + levels_left l.levels.items
