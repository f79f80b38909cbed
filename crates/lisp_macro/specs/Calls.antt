-- A call of the program as the definition sees it. This project's own.
use Rattle.lisp_read.specs.Views.{form_of}
use Rattle.lisp_spec.specs.MacroBodies.{MacroCall}
use Rattle.lisp_macro.specs.declared.call.Call.{Call}

abbrev pub call_of : Call → MacroCall
call_of call = record { params = form_of call.params.now; operands = call.operands.now; place = call.place }
