use Rattle.std.proofs.Common.{sym}
use Rattle.lisp_read.specs.Views.{form_of}
use Rattle.lisp_parts.proofs.SymbolLaws.{symbols_are_ascii}
use Rattle.lisp_parts.proofs.TextLaws.{only_is_ascii}
use Rattle.lisp_parts.proofs.texts.read_form.Goals as goal

pub returns-in-Some-clause-symbols : goal.returns-in-Some-clause-symbols
returns-in-Some-clause-symbols c =
    only_is_ascii c.in-Ok.forms (form_of c.in-Some.form) (sym c.in-Some.ensures) (symbols_are_ascii c.args.number c.args.text.now c.in-Ok.forms c.in-Ok.ensures.found)
