use Rattle.std.proofs.Common.{refl, sym, ap, ◌∙◌, Err}
use Rattle.lisp_parts.specs.declared.fault.PartsFault.TheVariants.{LibraryFault}
use Rattle.lisp_parts.specs.declared.whole.ModuleParts.{ModuleParts}
use Rattle.lisp_parts.specs.Faults.{twice_at}
use Rattle.lisp_parts.specs.TakenApart.{outline_of}
use Rattle.lisp_parts.proofs.WholeLaws.{some_outline_fault, some_nothing, some_name_twice, some_fault, some_taken, same_error}
use Rattle.lisp_parts.proofs.AskingLaws.{text_asks}
use Rattle.lisp_parts.proofs.whole.parts.Goals as goal

pub returns-in_err-params-clause-answer : goal.returns-in_err-params-clause-answer
returns-in_err-params-clause-answer g c =
    some_outline_fault (g.B.Library.texts c.args.library.now) c.args.text.now c.in_err-params.field-0.0 c.from_residual.result c.from_residual.ensures.1 c.in_err-params.ensures.found

pub returns-in_err-place-clause-answer : goal.returns-in_err-place-clause-answer
returns-in_err-place-clause-answer g c =
    some_nothing (g.B.Library.texts c.args.library.now) c.args.text.now c.from_residual-in_err-place.result c.from_residual-in_err-place.ensures.1

pub returns-in-Some-clause-answer : goal.returns-in-Some-clause-answer
returns-in-Some-clause-answer g c =
    some_name_twice (g.B.Library.texts c.args.library.now) c.args.text.now (outline_of c.in_ok-params.field-0) c.in-Some.place c.in_ok-params.ensures.found (sym (ap twice_at c.in-Some.is) ∙ c.in_ok-place.ensures)

pub returns-in-Ok-clause-answer : goal.returns-in-Ok-clause-answer
returns-in-Ok-clause-answer g c =
    some_taken (g.B.Library.texts c.args.library.now) c.args.text.now (outline_of c.in_ok-params.field-0)
    (record { params = c.in_ok-params.field-0.params; definitions = c.in-Ok.definitions; body = c.in_ok-params.field-0.body })
    c.in_ok-params.ensures.found (sym c.in_ok-place.ensures ∙ ap twice_at c.in_default.is) refl refl c.in-Ok.ensures.found

pub returns-in-Err-clause-answer : goal.returns-in-Err-clause-answer
returns-in-Err-clause-answer g c =
    some_fault (g.B.Library.texts c.args.library.now) c.args.text.now (outline_of c.in_ok-params.field-0) c.in-Err.fault
    c.in_ok-params.ensures.found (sym c.in_ok-place.ensures ∙ ap twice_at c.in_default.is) c.in-Err.ensures.found

pub returns-in-Err-clause-cause : goal.returns-in-Err-clause-cause
returns-in-Err-clause-cause g c = λ is.
    c.in-Err.ensures.cause (same_error {A = ModuleParts} c.in-Err.fault LibraryFault (Err c.in-Err.fault) (Err c.in-Err.fault) refl is refl)

pub returns-in-Err-clause-asked : goal.returns-in-Err-clause-asked
returns-in-Err-clause-asked g c = λ is.
    text_asks (g.B.Library.texts c.args.library.now) c.args.text.now (outline_of c.in_ok-params.field-0) c.in_ok-params.ensures.found (sym c.in_ok-place.ensures ∙ ap twice_at c.in_default.is)
    (c.in-Err.ensures.asked (same_error {A = ModuleParts} c.in-Err.fault LibraryFault (Err c.in-Err.fault) (Err c.in-Err.fault) refl is refl))
