use Rattle.std.proofs.Common.{◌≡◌, Some, refl, ap₂, sym, subst, ◌∙◌}
use Rattle.std.proofs.lemmas.Result.{err_from_is_err_and}
use Rattle.lisp_read.specs.Views.{form_of}
use Rattle.lisp_read.specs.Copies.{size}
use Rattle.lisp_read.specs.declared.form.Form.TheVariants.{Pair}
use Rattle.lisp_spec.specs.FormParts as parts
use Rattle.lisp_spec.specs.Expansion.{kind_of, call_given, written_at, expanded_part}
use Rattle.lisp_macro.specs.Defined.{macro_with}
use Rattle.lisp_macro.specs.Faults.{IsMacroFault}
use Rattle.lisp_macro.specs.Walks.{pair_of, GoesOn}
use Rattle.lisp_macro.specs.declared.walk.Part.TheVariants.{Expression}
use Rattle.lisp_macro.specs.declared.walk.Next.TheVariants.{Looks}
use Rattle.lisp_macro.proofs.WalkLaws.{kept_law, call_fault, kept_whole, behind_looked, call_looked}
use Rattle.lisp_macro.proofs.walk.look_at_expression.Goals as goal

pub returns-in-Kept : goal.returns-in-Kept
returns-in-Kept c =
    let pair = c.args.pair in
    kept_whole c.args.macros.now c.args.levels.now.items c.args.levels.now.items c.args.turns.now pair.outer pair.place pair.first pair.rest (Pair pair.place pair.first pair.rest) _ refl
    (kept_law c.args.macros.now pair.outer pair.place pair.first pair.rest c.args.turns.now (ap₂ (kind_of c.args.macros.now) (sym c.get.ensures) (sym c.get-2.ensures) ∙ c.in-Kept.ensures))

pub returns-in_ok-push-in-Behind : goal.returns-in_ok-push-in-Behind
returns-in_ok-push-in-Behind c =
    let pair = c.args.pair in
    behind_looked c.args.macros.now c.args.levels.now.items c.push.new.self.items c.args.turns.now pair.outer pair.place pair.first pair.rest c.into_inner.result c.in-Behind.part c.into_inner.ensures
    (ap₂ (kind_of c.args.macros.now) (sym c.get.ensures) (sym c.get-2.ensures) ∙ c.in-Behind.ensures) c.in_ok-push-in-Behind.ensures.items

pub returns-in_ok-given-in-Calls : goal.returns-in_ok-given-in-Calls
returns-in_ok-given-in-Calls c =
    let pair = c.args.pair in
    let name = c.in-Calls.ensures.0 in
    let macro = macro_with name c.in-Calls.definition.now in
    let given = c.in_ok-given-in-Calls.given in
    let left = c.call_given.new.turns in
    subst (λ w. GoesOn c.args.macros.now c.args.levels.now.items c.args.levels.now.items c.args.turns.now left (expanded_part c.args.macros.now parts.Expression pair.outer (pair_of pair) c.args.turns.now) (size (pair_of pair)) (Looks Expression (Some w) given))
    (sym c.written_at-written.ensures)
    (call_looked c.args.macros.now c.args.levels.now.items c.args.levels.now.items c.args.turns.now pair.outer pair.place pair.first pair.rest given macro left
    (ap₂ (kind_of c.args.macros.now) (sym c.get.ensures) (sym c.get-2.ensures) ∙ c.in-Calls.ensures.1)
    (sym (ap₂ (λ r w. call_given macro r w c.args.turns.now) c.get-in-Calls.ensures c.written_at-written.ensures) ∙ c.in_ok-given-in-Calls.ensures.given name) c.in_ok-given-in-Calls.ensures.fewer)

pub returns-in_err-given-in-Calls : goal.returns-in_err-given-in-Calls
returns-in_err-given-in-Calls c =
    let pair = c.args.pair in
    let name = c.in-Calls.ensures.0 in
    let macro = macro_with name c.in-Calls.definition.now in
    let left = c.call_given.new.turns in
    let fault = c.in_err-given-in-Calls.field-0.0 in
    let p = err_from_is_err_and c.from_residual-in_err-given-in-Calls.result c.from_residual-in_err-given-in-Calls.ensures.1 in
    let whole = expanded_part c.args.macros.now parts.Expression pair.outer (pair_of pair) c.args.turns.now in
    let same = ap₂ (λ r w. call_given macro r w c.args.turns.now) c.get-in-Calls.ensures c.written_at-written.ensures in
    let all = call_fault c.args.macros.now pair.outer pair.place pair.first pair.rest c.args.turns.now macro left fault (ap₂ (kind_of c.args.macros.now) (sym c.get.ensures) (sym c.get-2.ensures) ∙ c.in-Calls.ensures.1)
    (subst (λ e. IsMacroFault e left fault) same (c.in_err-given-in-Calls.ensures.fault name)) in
    rw p.1 (subst (IsMacroFault whole left) (sym p.2) all)
