use Rattle.std.proofs.Common.{◌≡◌, ◌≤◌, length, drop}
use Rattle.lisp_code.specs.Paths.{path_number}
use Rattle.lisp_compile.specs.Sides.{path_in}
use Rattle.lisp_compile.proofs.path.number.Given as goal

abbrev pub invariant-sides : goal.invariant-sides
invariant-sides l = record {
  within : l.at ≤ length l.sides;
  number : l.number ≡ path_number (path_in (drop l.at l.sides));
}

abbrev pub decreases-sides : goal.decreases-sides
decreases-sides l = l.at
