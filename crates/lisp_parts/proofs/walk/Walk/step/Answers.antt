use Rattle.std.proofs.Common.{refl, sym, ap, ◌∙◌}
use Rattle.lisp_read.specs.Views.{form_of}
use Rattle.lisp_parts.specs.Entries.{entry_seen}
use Rattle.lisp_parts.specs.Views.{written_of}
use Rattle.lisp_parts.specs.Walks.{walk_of}
use Rattle.lisp_parts.proofs.OpeningLaws.{learns_nothing}
use Rattle.lisp_parts.proofs.StepLaws.{steps_nothing, learns_as, steps_to_definition, steps_to_fault, steps_to_shapeless, steps_into}
use Rattle.lisp_parts.proofs.walk.Walk.step.Goals as goal

pub returns-in_err-written-clause-found : goal.returns-in_err-written-clause-found
returns-in_err-written-clause-found g c = λ known.
    learns_nothing (g.B.Library.texts c.args.library.now) c.args.self.now.included c.args.self.now.included _ refl (λ texts. steps_nothing _ _ _ c.from_residual.ensures.1) known

pub returns-in-Ok-clause-found : goal.returns-in-Ok-clause-found
returns-in-Ok-clause-found g c = λ known.
    learns_nothing (g.B.Library.texts c.args.library.now) c.args.self.now.included c.define.new.self.included _ c.define.ensures.included
    (λ texts. steps_to_definition texts (form_of c.args.form) (written_of c.in-Defines.written) (walk_of c.args.self.now) (walk_of c.define.new.self)
    (sym (ap entry_seen c.in-Defines.is) ∙ c.in_ok-written.ensures) c.in-Ok.ensures.found) known

pub returns-in-Err-clause-found : goal.returns-in-Err-clause-found
returns-in-Err-clause-found g c = λ known.
    learns_nothing (g.B.Library.texts c.args.library.now) c.args.self.now.included c.define.new.self.included _ c.define.ensures.included
    (λ texts. steps_to_fault texts (form_of c.args.form) (written_of c.in-Defines.written) (walk_of c.args.self.now) c.in-Err.fault
    (sym (ap entry_seen c.in-Defines.is) ∙ c.in_ok-written.ensures) c.in-Err.ensures.fault) known

pub returns-in-Includes-clause-found : goal.returns-in-Includes-clause-found
returns-in-Includes-clause-found g c = λ known.
    learns_as (g.B.Library.texts c.args.library.now) c.args.self.now.included c.include.new.self.included _ _ known
    (λ texts s. steps_into texts (form_of c.args.form) c.place-place.result c.in-Includes.name (walk_of c.args.self.now) (walk_of c.include.new.self) c.include.result
    c.place-place.ensures (sym (ap entry_seen c.in-Includes.is) ∙ c.in_ok-written.ensures) s) (c.include.ensures.found known)

pub returns-in-Shapeless-clause-found : goal.returns-in-Shapeless-clause-found
returns-in-Shapeless-clause-found g c = λ known.
    learns_nothing (g.B.Library.texts c.args.library.now) c.args.self.now.included c.args.self.now.included _ refl
    (λ texts. steps_to_shapeless texts (form_of c.args.form) c.place-place.result (walk_of c.args.self.now) c.place-place.ensures (sym (ap entry_seen c.in-Shapeless.is) ∙ c.in_ok-written.ensures)) known
