use Rattle.std.proofs.Common.{sym, subst, ◌∙◌}
use Rattle.lisp_read.specs.Views.{form_of}
use Rattle.lisp_parts.specs.Symbols.{HaveAsciiSymbols}
use Rattle.lisp_parts.proofs.SymbolLaws.{elements_are_ascii}
use Rattle.lisp_parts.proofs.texts.library_forms.Goals as goal

pub returns-in-Some-clause-symbols : goal.returns-in-Some-clause-symbols
returns-in-Some-clause-symbols c =
    subst HaveAsciiSymbols (sym c.of.ensures.forms) (elements_are_ascii (form_of c.in_ok-form.form) c.in-Some.forms c.in_ok-form.ensures.symbols (sym c.in_ok-forms.ensures ∙ c.in-Some.is))
