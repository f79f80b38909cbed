use Rattle.std.proofs.Common.{◌≡◌, reverse}
use Rattle.lisp_read.specs.Views.{form_of}
use Rattle.lisp_spec.specs.Inclusion.{params_fault, second_of_a_name}
use Rattle.lisp_parts.proofs.TreeWalks.{left_size, left_parameters}
use Rattle.lisp_parts.proofs.parameters.repeated.Given as goal

abbrev pub invariant-left : goal.invariant-left
invariant-left l = params_fault (form_of l.params) ≡ second_of_a_name (reverse l.names) (left_parameters l.left.items)

abbrev pub decreases-left : goal.decreases-left
decreases-left l = left_size l.left.items
