use Rattle.std.proofs.Common.{refl, subst}
use Rattle.clvm_spec.specs.Tokens.{Closing}
use Rattle.open_lists.specs.Held.{forms_held, held}
use Rattle.clvm_text.specs.Forms.{AreKnownForms}
use Rattle.clvm_text.specs.Parsing.{reading}
use Rattle.clvm_text.proofs.FormLaws.{known_back}
use Rattle.clvm_text.proofs.StepLaws.{put_leads, put_stops, closing}
use Rattle.clvm_text.proofs.reader.close.Goals as goal

pub whole-requires-clause-known : goal.whole-requires-clause-known
whole-requires-clause-known c =
    let trees = c.args.trees.now in known_back trees (held c.close.new.self.lists.items) (forms_held c.in_ok-list.list) (subst (AreKnownForms trees) c.in_ok-list.ensures.holds c.requires.known)

pub returns-clause-leads : goal.returns-clause-leads
returns-clause-leads c =
    let from = c.args.from.now in
    let old = c.args.trees.now in
    let new = c.whole.new.trees in
    let before = c.args.lists.now.lists.items in
    let outer = c.close.new.self.lists.items in
    let list = c.in_ok-list.list in
    let made = c.in_ok-form.ensures in
    put_leads Closing from old before outer new c.in_ok-form.form
    (closing from old new before outer list c.in_ok-form.form made.grows made.few made.known made.whole c.requires.known c.in_ok-list.ensures.holds (λ rest. c.in_ok-list.ensures.closes (reading old) from rest refl))
    c.put.new.self.lists.items c.put.result c.put.ensures.leads c.put.ensures.holds

pub returns-clause-stops : goal.returns-clause-stops
returns-clause-stops c =
    let from = c.args.from.now in
    let old = c.args.trees.now in
    let new = c.whole.new.trees in
    let before = c.args.lists.now.lists.items in
    let outer = c.close.new.self.lists.items in
    let list = c.in_ok-list.list in
    let made = c.in_ok-form.ensures in
    put_stops Closing from old before outer new c.in_ok-form.form
    (closing from old new before outer list c.in_ok-form.form made.grows made.few made.known made.whole c.requires.known c.in_ok-list.ensures.holds (λ rest. c.in_ok-list.ensures.closes (reading old) from rest refl))
    c.put.result c.put.ensures.stops
