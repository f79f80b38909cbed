use Rattle.std.proofs.Common.{ap, ◌∙◌}
use Rattle.clvm_spec.specs.Tokens.{Took}
use Rattle.text_tokens.specs.Meanings.{meant, literal_bytes}
use Rattle.open_lists.specs.Lists.{told}
use Rattle.lisp_read.specs.declared.form.Form.TheVariants.{Atom, Symbol}
use Rattle.lisp_read.specs.Parsing.{reading}
use Rattle.lisp_read.proofs.StepLaws.{put_leads, put_stops, literal_put, symbol_put}
use Rattle.lisp_read.proofs.reader.step.Goals as goal

pub returns-in_ok-open-in-Opening-clause-leads : goal.returns-in_ok-open-in-Opening-clause-leads
returns-in_ok-open-in-Opening-clause-leads c = λ there from rest e.
    let h = c.in_ok-open-in-Opening.ensures.takes (reading there) from rest e in
    (h.0, ap (λ t. told (reading there) 0 c.args.lists.now.lists.items (Took (meant t) from rest)) c.in-Opening.is ∙ h.1)

pub returns-in_ok-point-in-Point-clause-leads : goal.returns-in_ok-point-in-Point-clause-leads
returns-in_ok-point-in-Point-clause-leads c = λ there from rest e.
    let h = c.in_ok-point-in-Point.ensures.takes (reading there) from rest e in
    (h.0, ap (λ t. told (reading there) 0 c.args.lists.now.lists.items (Took (meant t) from rest)) c.in-Point.is ∙ h.1)

pub returns-in_ok-bytes-in-Literal-clause-leads : goal.returns-in_ok-bytes-in-Literal-clause-leads
returns-in_ok-bytes-in-Literal-clause-leads c =
    let items = c.args.lists.now.lists.items in
    put_leads (meant c.args.token) c.args.place items items c.put.new.self.lists.items (Atom c.args.place c.from_vec-bytes.result) c.put.result c.put.ensures.leads
    (literal_put items c.args.place (literal_bytes c.in-Literal.literal) c.from_vec-bytes.result (meant c.args.token) (ap meant c.in-Literal.is) (c.from_vec-bytes.ensures ∙ c.in_ok-bytes-in-Literal.ensures))

pub returns-in_ok-bytes-in-Literal-clause-stops : goal.returns-in_ok-bytes-in-Literal-clause-stops
returns-in_ok-bytes-in-Literal-clause-stops c =
    let items = c.args.lists.now.lists.items in
    put_stops (meant c.args.token) c.args.place items items (Atom c.args.place c.from_vec-bytes.result) c.put.result c.put.ensures.stops
    (literal_put items c.args.place (literal_bytes c.in-Literal.literal) c.from_vec-bytes.result (meant c.args.token) (ap meant c.in-Literal.is) (c.from_vec-bytes.ensures ∙ c.in_ok-bytes-in-Literal.ensures))

pub returns-in_ok-name-in-Symbol-clause-leads : goal.returns-in_ok-name-in-Symbol-clause-leads
returns-in_ok-name-in-Symbol-clause-leads c =
    let items = c.args.lists.now.lists.items in
    put_leads (meant c.args.token) c.args.place items items c.put-in-Symbol.new.self.lists.items (Symbol c.args.place c.in_ok-name-in-Symbol.name) c.put-in-Symbol.result c.put-in-Symbol.ensures.leads
    (symbol_put items c.args.place c.in-Symbol.name.now c.in_ok-name-in-Symbol.name (meant c.args.token) (ap meant c.in-Symbol.is) c.in_ok-name-in-Symbol.ensures)

pub returns-in_ok-name-in-Symbol-clause-stops : goal.returns-in_ok-name-in-Symbol-clause-stops
returns-in_ok-name-in-Symbol-clause-stops c =
    let items = c.args.lists.now.lists.items in
    put_stops (meant c.args.token) c.args.place items items (Symbol c.args.place c.in_ok-name-in-Symbol.name) c.put-in-Symbol.result c.put-in-Symbol.ensures.stops
    (symbol_put items c.args.place c.in-Symbol.name.now c.in_ok-name-in-Symbol.name (meant c.args.token) (ap meant c.in-Symbol.is) c.in_ok-name-in-Symbol.ensures)
