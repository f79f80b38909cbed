use Rattle.std.proofs.Common.{◌≡◌, is_some}
use Rattle.lisp_read.specs.Views.{form_of}
use Rattle.lisp_read.specs.FormLists.{form_elements}
use Rattle.lisp_read.proofs.form.Form.is_list.Given as goal

abbrev pub invariant-elements : goal.invariant-elements
invariant-elements l = is_some (form_elements (form_of l.here)) ≡ is_some (form_elements (form_of l.fn.self))
