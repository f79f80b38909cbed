use Rattle.std.proofs.Common.{◌≡◌}
use Rattle.lisp_read.specs.Views.{form_of}
use Rattle.lisp_read.specs.FormLists.{form_elements, is_long}
use Rattle.lisp_read.proofs.form.Form.is_list_of.Given as goal

abbrev pub invariant-elements : goal.invariant-elements
invariant-elements l = is_long l.more (form_elements (form_of l.here)) ≡ is_long l.fn.count (form_elements (form_of l.fn.self))
