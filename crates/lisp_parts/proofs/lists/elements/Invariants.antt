use Rattle.std.proofs.Common.{◌≡◌}
use Rattle.lisp_read.specs.Views.{form_of}
use Rattle.lisp_read.specs.FormLists.{form_elements}
use Rattle.lisp_parts.proofs.ListWalks.{spine, behind}
use Rattle.lisp_parts.proofs.lists.elements.Given as goal

abbrev pub invariant-elements : goal.invariant-elements
invariant-elements l = form_elements (form_of l.fn.list) ≡ behind l.elements (form_elements (form_of l.rest))

abbrev pub decreases-elements : goal.decreases-elements
decreases-elements l = spine (form_of l.rest)
