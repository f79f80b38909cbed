use Rattle.std.proofs.Common.{refl, arith, ◌<◌, ◌≤◌, length, Ok, Err}
use Rattle.lisp_spec.specs.Inclusion.{most_texts}
use Rattle.lisp_parts.specs.Views.{all_written}
use Rattle.lisp_parts.proofs.OpeningLaws.{learns_nothing}
use Rattle.lisp_parts.proofs.StepLaws.{steps_nothing, includes_again, includes_too_many, includes_text}
use Rattle.lisp_parts.proofs.walk.Walk.include.Goals as goal

pub returns-in_err-copy-clause-found : goal.returns-in_err-copy-clause-found
returns-in_err-copy-clause-found g c = λ known.
    learns_nothing (g.B.Library.texts c.args.library.now) c.args.self.now.included c.args.self.now.included _ refl (λ texts. steps_nothing _ _ _ c.from_residual.ensures.1) known

pub returns-in_err-new-clause-found : goal.returns-in_err-new-clause-found
returns-in_err-new-clause-found g c = λ known.
    learns_nothing (g.B.Library.texts c.args.library.now) c.args.self.now.included c.add.new.self _ c.in_err-new.ensures.same (λ texts. steps_nothing _ _ _ c.from_residual-in_err-new.ensures.1) known

pub returns-then-not-new-clause-found : goal.returns-then-not-new-clause-found
returns-then-not-new-clause-found g c =
    includes_again (g.B.Library.texts c.args.library.now) c.args.place c.args.name c.in_ok-copy.field-0 c.args.self.now.included c.add.new.self (all_written c.args.self.now.definitions.items) c.in_ok-new.new
    c.in_ok-copy.ensures c.in_ok-new.ensures.new c.in_ok-new.ensures.names c.if-not-new.true

pub returns-then-number-gt-MOST_TEXTS-clause-found : goal.returns-then-number-gt-MOST_TEXTS-clause-found
returns-then-number-gt-MOST_TEXTS-clause-found g c =
    let long : most_texts < length c.add.new.self = omega arith in
    includes_too_many (g.B.Library.texts c.args.library.now) c.args.place c.args.name c.in_ok-copy.field-0 c.args.self.now.included c.add.new.self (all_written c.args.self.now.definitions.items) c.in_ok-new.new
    c.in_ok-copy.ensures c.in_ok-new.ensures.new c.in_ok-new.ensures.names c.if-not-new.false long

pub returns-in-Ok-clause-found : goal.returns-in-Ok-clause-found
returns-in-Ok-clause-found g c =
    let room : length c.add.new.self ≤ most_texts = omega arith in
    includes_text (g.B.Library.texts c.args.library.now) c.args.place c.args.name c.in_ok-copy.field-0 c.as_text.result.now c.args.self.now.included c.add.new.self (all_written c.args.self.now.definitions.items) c.in_ok-new.new c.len-number.result (Ok c.in-Ok.forms)
    c.in_ok-copy.ensures c.in_ok-new.ensures.new c.in_ok-new.ensures.names c.if-not-new.false c.len-number.ensures room c.as_text.ensures c.in-Ok.ensures.found

pub returns-clause-found : goal.returns-clause-found
returns-clause-found g c =
    let room : length c.add.new.self ≤ most_texts = omega arith in
    includes_text (g.B.Library.texts c.args.library.now) c.args.place c.args.name c.in_ok-copy.field-0 c.as_text.result.now c.args.self.now.included c.add.new.self (all_written c.args.self.now.definitions.items) c.in_ok-new.new c.len-number.result (Err c.in-Err.fault)
    c.in_ok-copy.ensures c.in_ok-new.ensures.new c.in_ok-new.ensures.names c.if-not-new.false c.len-number.ensures room c.as_text.ensures c.in-Err.ensures.found
