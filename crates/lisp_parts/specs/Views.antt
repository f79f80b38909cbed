-- Definitions of the program as the definitions of the language see them. This project's own.
use Rattle.std.specs.Prelude.{List, map}
use Rattle.lisp_read.specs.Views.{form_of}
use Rattle.lisp_spec.specs.Definitions as spec
use Rattle.lisp_parts.specs.declared.written.Role.{Role}
use Rattle.lisp_parts.specs.declared.written.Role.TheVariants.{Function, Inline, Macro, Constant}
use Rattle.lisp_parts.specs.declared.written.Written.{Written}

abbrev pub role_of : Role → spec.Role
role_of Function = spec.Function
role_of Inline = spec.Inline
role_of Macro = spec.Macro
role_of Constant = spec.Constant

abbrev pub written_of : Written → spec.Written
written_of w = record { role = role_of w.role; place = w.place; name = w.name; name_place = w.name_place; params = form_of w.params; body = form_of w.body }

abbrev pub all_written : List Written → List spec.Written
all_written list = map written_of list
