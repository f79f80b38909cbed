use Rattle.std.proofs.Common.{◌≡◌}
use Rattle.lisp_read.specs.Views.{form_of}
use Rattle.lisp_spec.specs.Parameters.{is_parameter_tree}
use Rattle.lisp_parts.proofs.TreeWalks.{left_size, are_trees}
use Rattle.lisp_parts.proofs.parameters.is_parameter_tree.Given as goal

abbrev pub invariant-left : goal.invariant-left
invariant-left l = is_parameter_tree (form_of l.form) ≡ are_trees l.left.items

abbrev pub decreases-left : goal.decreases-left
decreases-left l = left_size l.left.items
