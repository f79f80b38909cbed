use Rattle.std.proofs.Common.{refl, ap, ◌∙◌}
use Rattle.text_tokens.specs.Meanings.{meant, literal_bytes}
use Rattle.clvm_text.specs.Parsing.{reading, read_at}
use Rattle.clvm_text.proofs.StepLaws.{put_leads, put_stops, literal, symbol, goes_on}
use Rattle.clvm_text.proofs.reader.step.Goals as goal

pub returns-in_ok-open-in-Opening-clause-leads : goal.returns-in_ok-open-in-Opening-clause-leads
returns-in_ok-open-in-Opening-clause-leads c =
    let from = c.args.from.now in
    let trees = c.args.trees.now in
    let before = c.args.lists.now.lists.items in
    goes_on (meant c.args.token) from trees before c.open.new.self.lists.items c.requires.known c.in_ok-open-in-Opening.ensures.holds
    (λ rest. let h = c.in_ok-open-in-Opening.ensures.takes (reading trees) from rest refl in (h.0, ap (λ t. read_at (meant t) from trees before rest) c.in-Opening.is ∙ h.1))

pub returns-in_ok-point-in-Point-clause-leads : goal.returns-in_ok-point-in-Point-clause-leads
returns-in_ok-point-in-Point-clause-leads c =
    let from = c.args.from.now in
    let trees = c.args.trees.now in
    let before = c.args.lists.now.lists.items in
    goes_on (meant c.args.token) from trees before c.point.new.self.lists.items c.requires.known c.in_ok-point-in-Point.ensures.holds
    (λ rest. let h = c.in_ok-point-in-Point.ensures.takes (reading trees) from rest refl in (h.0, ap (λ t. read_at (meant t) from trees before rest) c.in-Point.is ∙ h.1))

pub returns-in_ok-form-in-Literal-clause-leads : goal.returns-in_ok-form-in-Literal-clause-leads
returns-in_ok-form-in-Literal-clause-leads c =
    let token = meant c.args.token in
    let old = c.args.trees.now in
    let new = c.literal.new.trees in
    let lists = c.args.lists.now.lists.items in
    let form = c.in_ok-form-in-Literal.form in
    put_leads token c.args.from.now old lists lists new form
    (literal token c.args.from.now (literal_bytes c.in-Literal.literal) old new lists form (ap meant c.in-Literal.is) c.in_ok-form-in-Literal.ensures.made c.requires.known)
    c.put.new.self.lists.items c.put.result c.put.ensures.leads c.put.ensures.holds

pub returns-in_ok-form-in-Literal-clause-stops : goal.returns-in_ok-form-in-Literal-clause-stops
returns-in_ok-form-in-Literal-clause-stops c =
    let token = meant c.args.token in
    let old = c.args.trees.now in
    let new = c.literal.new.trees in
    let lists = c.args.lists.now.lists.items in
    let form = c.in_ok-form-in-Literal.form in
    put_stops token c.args.from.now old lists lists new form
    (literal token c.args.from.now (literal_bytes c.in-Literal.literal) old new lists form (ap meant c.in-Literal.is) c.in_ok-form-in-Literal.ensures.made c.requires.known)
    c.put.result c.put.ensures.stops

pub returns-in_ok-form-in-Symbol-clause-leads : goal.returns-in_ok-form-in-Symbol-clause-leads
returns-in_ok-form-in-Symbol-clause-leads c =
    let token = meant c.args.token in
    let old = c.args.trees.now in
    let new = c.symbol.new.trees in
    let lists = c.args.lists.now.lists.items in
    let form = c.in_ok-form-in-Symbol.form in
    put_leads token c.args.from.now old lists lists new form
    (symbol token c.args.from.now c.in-Symbol.name.now old new lists form (ap meant c.in-Symbol.is) c.in_ok-form-in-Symbol.ensures.made c.requires.known)
    c.put-in-Symbol.new.self.lists.items c.put-in-Symbol.result c.put-in-Symbol.ensures.leads c.put-in-Symbol.ensures.holds

pub returns-in_ok-form-in-Symbol-clause-stops : goal.returns-in_ok-form-in-Symbol-clause-stops
returns-in_ok-form-in-Symbol-clause-stops c =
    let token = meant c.args.token in
    let old = c.args.trees.now in
    let new = c.symbol.new.trees in
    let lists = c.args.lists.now.lists.items in
    let form = c.in_ok-form-in-Symbol.form in
    put_stops token c.args.from.now old lists lists new form
    (symbol token c.args.from.now c.in-Symbol.name.now old new lists form (ap meant c.in-Symbol.is) c.in_ok-form-in-Symbol.ensures.made c.requires.known)
    c.put-in-Symbol.result c.put-in-Symbol.ensures.stops
