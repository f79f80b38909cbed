use Rattle.std.proofs.Common.{[], refl, sym, ◌∙◌, ap, subst, arith}
use Rattle.std.proofs.lemmas.Result.{err_from_is_err_and}
use Rattle.clvm_tree.proofs.NodeLaws.{grows_on}
use Rattle.text_tokens.specs.Meanings.{meant, meant_front}
use Rattle.open_lists.proofs.FaultLaws.{none_of}
use Rattle.clvm_text.specs.Parsing.{reading}
use Rattle.clvm_text.specs.Scans.{IsFormFault}
use Rattle.clvm_text.proofs.ScanningLaws.{end_fault, token_fault, found_form, goes_form}
use Rattle.clvm_text.proofs.scanner.first_form.Goals as goal

pub returns-in-AtEnd-clause-broken : goal.returns-in-AtEnd-clause-broken
returns-in-AtEnd-clause-broken c =
    end_fault c.tokens.trees c.args.text.now c.tokens.rest.now c.tokens.lists.lists.items c.fault.result c.tokens.invariant.same (sym c.first_token.ensures.front ∙ ap meant_front c.in-AtEnd.is) (c.fault.ensures (reading c.tokens.trees) [] refl)

pub returns-in_err-form-in-Took-clause-broken : goal.returns-in_err-form-in-Took-clause-broken
returns-in_err-form-in-Took-clause-broken c =
    let text = c.args.text.now in
    let took = c.in-Took in
    let fault = c.in_err-form-in-Took.field-0.0 in
    let p = err_from_is_err_and c.from_residual.result c.from_residual.ensures.1 in
    rw p.1 (subst (IsFormFault c.step.new.trees text) (sym p.2)
    (token_fault c.tokens.trees c.step.new.trees text c.tokens.rest.now took.from.now took.behind.now c.tokens.lists.lists.items (meant took.token) fault c.tokens.invariant.same (sym c.first_token.ensures.front ∙ ap meant_front took.is) c.in_err-form-in-Took.ensures.stops))

pub returns-in-Some-clause-found : goal.returns-in-Some-clause-found
returns-in-Some-clause-found c =
    let took = c.in-Took in
    found_form c.tokens.trees c.step.new.trees c.args.text.now c.tokens.rest.now took.from.now took.behind.now c.tokens.lists.lists.items c.step.new.lists.lists.items (meant took.token) c.in_ok-form-in-Took.field-0
    c.tokens.invariant.same (sym c.first_token.ensures.front ∙ ap meant_front took.is) c.in_ok-form-in-Took.ensures.leads c.in-Some.form c.in-Some.is

pub tokens-preserved : goal.tokens-preserved
tokens-preserved c =
    let took = c.in-Took in
    let ends = took.ensures.ends in
    let goes =
    goes_form c.tokens.trees c.step.new.trees c.args.text.now c.tokens.rest.now took.from.now took.behind.now c.tokens.lists.lists.items c.step.new.lists.lists.items (meant took.token) c.in_ok-form-in-Took.field-0
    c.tokens.invariant.same (sym c.first_token.ensures.front ∙ ap meant_front took.is) c.in_ok-form-in-Took.ensures.leads (none_of c.in_ok-form-in-Took.field-0 c.in_default.not-Some)
    in
    record {
      grows = grows_on c.args.trees.now c.tokens.trees c.step.new.trees c.tokens.invariant.grows c.in_ok-form-in-Took.ensures.grows;
      count = omega (arith, goes.0, ends.0.within, ends.2, c.tokens.invariant.count);
      known = goes.1;
      same = goes.2;
    }
