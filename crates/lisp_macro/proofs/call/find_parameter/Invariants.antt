use Rattle.std.proofs.Common.{◌≡◌, Some}
use Rattle.lisp_read.specs.Views.{form_of}
use Rattle.lisp_macro.specs.Bindings.{named_in}
use Rattle.lisp_macro.specs.Found.{parts_named, parts_left}
use Rattle.lisp_macro.proofs.call.find_parameter.Given as goal

abbrev pub invariant-parts : goal.invariant-parts
invariant-parts l = parts_named l.name l.parts.items ≡ named_in l.name (form_of l.params) (Some l.operands)

abbrev pub decreases-parts : goal.decreases-parts
decreases-parts l = parts_left l.parts.items
