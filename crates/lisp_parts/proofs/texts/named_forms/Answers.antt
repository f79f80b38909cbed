use Rattle.std.proofs.Common.{ap, sym, subst, ◌∙◌, ◌≤◌, length}
use Rattle.std.specs.Option.{option_or}
use Rattle.lisp_spec.specs.Inclusion.{forms_of_library, if_short}
use Rattle.lisp_parts.specs.Steps.{Finds, forms_in, forms_named}
use Rattle.lisp_parts.proofs.TextLaws.{some_answer, nothing_is_said, built_in_is_short}
use Rattle.lisp_parts.proofs.texts.named_forms.Goals as goal

pub library_forms-requires : goal.library_forms-requires
library_forms-requires g c = subst (λ t. length t ≤ 67108864) (sym c.as_bytes.ensures.value) (built_in_is_short c.args.name.now c.in-Some.text.now c.in-Some.ensures)

pub returns-in-Some-clause-found : goal.returns-in-Some-clause-found
returns-in-Some-clause-found g c =
    let a = some_answer c.args.name.now (g.B.Library.texts c.args.library.now) in
    let same = ap (forms_of_library c.args.number) c.as_bytes.ensures.value ∙ ap (λ b. forms_in c.args.number c.args.place (option_or b (if_short a.0))) (sym c.in-Some.ensures) in
    (a.0, a.1, subst (λ j. Finds (λ f. f) j c.library_forms.result) same c.library_forms.ensures.found)

pub returns-in-Err-clause-found : goal.returns-in-Err-clause-found
returns-in-Err-clause-found g c =
    let a = some_answer c.args.name.now (g.B.Library.texts c.args.library.now) in
    (a.0, a.1, nothing_is_said (forms_named c.args.number c.args.place c.args.name.now a.0) c.in-Err.fault c.in-Err.ensures.only)
