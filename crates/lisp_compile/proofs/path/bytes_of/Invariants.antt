use Rattle.std.proofs.Common.{◌≡◌, ◌++◌, length, reverse}
use Rattle.lisp_code.specs.Paths.{path_atom}
use Rattle.lisp_compile.specs.Sides.{path_in}
use Rattle.lisp_compile.proofs.path.bytes_of.Given as goal

abbrev pub invariant-eights : goal.invariant-eights
invariant-eights l = path_atom (path_in l.fn.sides) ≡ path_atom (path_in l.rest) ++ reverse l.bytes.items

abbrev pub decreases-eights : goal.decreases-eights
decreases-eights l = length l.rest
