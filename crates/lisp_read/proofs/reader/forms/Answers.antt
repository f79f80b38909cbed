use Rattle.std.proofs.Common.{◌≡◌, rules, [], Some, None, ap, refl, sym, ◌∙◌, subst, arith}
use Rattle.clvm_spec.specs.declared.scan_kind.ScanKind.TheVariants as kind
use Rattle.clvm_spec.specs.Tokens.{Took, Unread, token_of}
use Rattle.text_tokens.specs.Meanings.{meant, meant_front}
use Rattle.open_lists.specs.Lists.{told}
use Rattle.open_lists.specs.Steps.{Leads}
use Rattle.open_lists.proofs.FaultLaws.{broken}
use Rattle.lisp_read.specs.Views.{form_of}
use Rattle.lisp_read.specs.Grammar.{place_in, forms_of}
use Rattle.lisp_read.specs.Laws.{after}
use Rattle.lisp_read.specs.Faults.{IsReadFault}
use Rattle.lisp_read.specs.Parsing.{reading}
use Rattle.lisp_read.proofs.BoundLaws.{forms_start, forms_step}
use Rattle.lisp_read.proofs.ReadLaws.{read_on, known}
use Rattle.lisp_read.proofs.ReadLaws.{after_push, goes_on, gives, token_stops, unread_stops, end_stops, end_reads}
use Rattle.lisp_read.proofs.reader.forms.Goals as goal

pub tokens-init : goal.tokens-init
tokens-init c =
    let number = c.args.number in
    let text = c.args.text.now in
    let there = place_in number text in
    record {
      within = omega arith;
      same = forms_start number text ∙ forms_step there text ∙ ap (λ l. read_on there l (token_of text)) (sym c.new-lists.ensures) ∙ ap (λ f. after f (read_on there c.new-lists.result.lists.items (token_of text))) (sym c.new-forms.ensures);
    }

pub returns-then-is_empty-clause-found : goal.returns-then-is_empty-clause-found
returns-then-is_empty-clause-found c =
    let there = place_in c.args.number c.args.text.now in
    end_reads there c.tokens.forms (forms_of c.args.number c.args.text.now) c.tokens.lists.lists.items
    (c.tokens.invariant.same ∙ ap (λ f. after c.tokens.forms (read_on there c.tokens.lists.lists.items f)) (sym c.first_token.ensures.front ∙ ap meant_front c.in-AtEnd.is)) (search rules)

pub answered-requires : goal.answered-requires
answered-requires c =
    let there = place_in c.args.number c.args.text.now in
    let end = told (reading there) 0 c.tokens.lists.lists.items (Unread kind.End []) in
    known there c.fault-fault.result end (broken (reading there) c.fault-fault.result end (c.fault-fault.ensures (reading there) [] (ap (λ n. record { text = c.args.number; at = n }) (omega arith))))

pub returns-in-AtEnd-clause-fault : goal.returns-in-AtEnd-clause-fault
returns-in-AtEnd-clause-fault c =
    let there = place_in c.args.number c.args.text.now in
    let read = forms_of c.args.number c.args.text.now in
    subst (IsReadFault read) (sym c.answered.ensures)
    (end_stops there c.tokens.forms read c.tokens.lists.lists.items c.fault-fault.result
    (c.tokens.invariant.same ∙ ap (λ f. after c.tokens.forms (read_on there c.tokens.lists.lists.items f)) (sym c.first_token.ensures.front ∙ ap meant_front c.in-AtEnd.is)) (search rules)
    (c.fault-fault.ensures (reading there) [] (ap (λ n. record { text = c.args.number; at = n }) (omega arith))))

pub answered-requires-in-Unread : goal.answered-requires-in-Unread
answered-requires-in-Unread c =
    let there = place_in c.args.number c.args.text.now in
    let unread = told (reading there) 0 c.tokens.lists.lists.items (Unread c.in-Unread.kind c.in-Unread.from.now) in
    known there c.fault-fault-in-Unread.result unread (broken (reading there) c.fault-fault-in-Unread.result unread (c.fault-fault-in-Unread.ensures (reading there) c.in-Unread.from.now refl))

pub returns-in-Unread-clause-fault : goal.returns-in-Unread-clause-fault
returns-in-Unread-clause-fault c =
    let there = place_in c.args.number c.args.text.now in
    let read = forms_of c.args.number c.args.text.now in
    subst (IsReadFault read) (sym c.answered-in-Unread.ensures)
    (unread_stops there c.tokens.forms read c.tokens.lists.lists.items c.in-Unread.kind c.in-Unread.from.now c.fault-fault-in-Unread.result
    (c.tokens.invariant.same ∙ ap (λ f. after c.tokens.forms (read_on there c.tokens.lists.lists.items f)) (sym c.first_token.ensures.front ∙ ap meant_front c.in-Unread.is))
    (c.fault-fault-in-Unread.ensures (reading there) c.in-Unread.from.now refl))

pub answered-requires-in-Err : goal.answered-requires-in-Err
answered-requires-in-Err c =
    let there = place_in c.args.number c.args.text.now in
    let took = c.in-Took in
    known there c.in-Err.fault (told (reading there) 0 c.tokens.lists.lists.items (Took (meant took.token) took.from.now took.behind.now)) (c.in-Err.ensures.stops there took.from.now took.behind.now refl)

pub returns-in-Err-clause-fault : goal.returns-in-Err-clause-fault
returns-in-Err-clause-fault c =
    let there = place_in c.args.number c.args.text.now in
    let took = c.in-Took in
    let read = forms_of c.args.number c.args.text.now in
    subst (IsReadFault read) (sym c.answered-in-Err.ensures)
    (token_stops there c.tokens.forms read c.tokens.lists.lists.items (meant took.token) took.from.now took.behind.now c.in-Err.fault
    (c.tokens.invariant.same ∙ ap (λ f. after c.tokens.forms (read_on there c.tokens.lists.lists.items f)) (sym c.first_token.ensures.front ∙ ap meant_front took.is))
    (c.in-Err.ensures.stops there took.from.now took.behind.now refl))

pub tokens-preserved-in_ok-push-in-Ok-Some : goal.tokens-preserved-in_ok-push-in-Ok-Some
tokens-preserved-in_ok-push-in-Ok-Some c =
    let there = place_in c.args.number c.args.text.now in
    let took = c.in-Took in
    let lists = c.tokens.lists.lists.items in
    let new = c.step.new.lists.lists.items in
    let is : c.in-Ok-Some.field-0 ≡ Some c.in-Ok-Some.form = search rules in
    record {
      within = omega (arith, took.ensures.ends.1.within, c.tokens.invariant.within);
      same =
          c.tokens.invariant.same
          ∙ ap (λ f. after c.tokens.forms (read_on there lists f)) (sym c.first_token.ensures.front ∙ ap meant_front took.is)
          ∙ ap (after c.tokens.forms) (gives there lists new (meant took.token) took.from.now took.behind.now c.in-Ok-Some.form
          (subst (λ d. Leads (reading there) new took.behind.now d (told (reading there) 0 lists (Took (meant took.token) took.from.now took.behind.now))) is (c.in-Ok-Some.ensures.leads there took.from.now took.behind.now refl)))
          ∙ sym (after_push c.tokens.forms (form_of c.in-Ok-Some.form) (read_on there new (token_of took.behind.now)))
          ∙ ap (λ f. after f (read_on there new (token_of took.behind.now))) (sym c.in_ok-push-in-Ok-Some.ensures.ok);
    }

pub tokens-preserved : goal.tokens-preserved
tokens-preserved c =
    let there = place_in c.args.number c.args.text.now in
    let took = c.in-Took in
    let lists = c.tokens.lists.lists.items in
    let new = c.step.new.lists.lists.items in
    let is : c.in-Ok-None.field-0 ≡ None = search rules in
    record {
      within = omega (arith, took.ensures.ends.1.within, c.tokens.invariant.within);
      same =
          c.tokens.invariant.same
          ∙ ap (λ f. after c.tokens.forms (read_on there lists f)) (sym c.first_token.ensures.front ∙ ap meant_front took.is)
          ∙ ap (after c.tokens.forms) (goes_on there lists new (meant took.token) took.from.now took.behind.now
          (subst (λ d. Leads (reading there) new took.behind.now d (told (reading there) 0 lists (Took (meant took.token) took.from.now took.behind.now))) is (c.in-Ok-None.ensures.leads there took.from.now took.behind.now refl)));
    }
