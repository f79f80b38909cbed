use Rattle.std.proofs.Common.{sym, ◌∙◌}
use Rattle.lisp_read.specs.Views.{form_of}
use Rattle.lisp_parts.proofs.SymbolLaws.{elements_are_ascii}
use Rattle.lisp_parts.proofs.ShapeLaws.{definitions_are_ascii}
use Rattle.lisp_parts.proofs.whole.outline_in.Goals as goal

pub returns-clause-symbols : goal.returns-clause-symbols
returns-clause-symbols c = λ ascii.
    definitions_are_ascii c.in-Some.forms c.pop.new.self c.next.new.self c.next-2.new.self (form_of c.in-Some-next.head) (form_of c.in-Some-next-2.params) (form_of c.in-Some-pop.body)
    c.in-Some-pop.ensures (sym c.of-definitions.ensures.forms ∙ c.in-Some-next.ensures) c.in-Some-next-2.ensures
    (elements_are_ascii (form_of c.args.form) c.in-Some.forms ascii (sym c.in_ok-forms.ensures ∙ c.in-Some.is))
