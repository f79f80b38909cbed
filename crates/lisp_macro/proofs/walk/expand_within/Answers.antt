use Rattle.std.proofs.Common.{◌≡◌, ap, sym, subst, ◌∙◌, arith}
use Rattle.std.proofs.lemmas.Result.{err_from_is_err_and}
use Rattle.lisp_read.specs.Views.{form_of}
use Rattle.lisp_spec.specs.Expansion.{expansion, expanded_part}
use Rattle.lisp_macro.specs.Faults.{IsMacroFault}
use Rattle.lisp_macro.specs.Walks.{part_of, level_goes, walked_off, next_expanded, levels_left, next_left}
use Rattle.lisp_macro.proofs.WalkLaws.{left_push, popped_same, fault_is}
use Rattle.lisp_macro.proofs.walk.expand_within.Goals as goal

pub returns-in_err-next-in-Looks-clause-fault : goal.returns-in_err-next-in-Looks-clause-fault
returns-in_err-next-in-Looks-clause-fault c =
    let macros = c.args.macros.now in
    let all = expansion macros (form_of c.args.form.now) c.args.turns.now in
    let p = err_from_is_err_and c.from_residual-in_err-next-in-Looks.result c.from_residual-in_err-next-in-Looks.ensures.1 in
    let same = ap (λ n. walked_off macros c.levels.levels.items (next_expanded macros n c.levels.turns)) (sym c.in-Looks.is) ∙ c.levels.invariant in
    rw p.1 (subst (IsMacroFault all c.look.new.turns) (sym p.2)
    (fault_is macros c.levels.levels.items (expanded_part macros (part_of c.in-Looks.part) c.in-Looks.outer (form_of c.in-Looks.form) c.levels.turns) all c.look.new.turns c.in_err-next-in-Looks.field-0.0 same c.in_err-next-in-Looks.ensures))

pub returns-in_err-next-in-Some-clause-fault : goal.returns-in_err-next-in-Some-clause-fault
returns-in_err-next-in-Some-clause-fault c =
    let macros = c.args.macros.now in
    let all = expansion macros (form_of c.args.form.now) c.args.turns.now in
    let p = err_from_is_err_and c.from_residual-in_err-next-in-Some.result c.from_residual-in_err-next-in-Some.ensures.1 in
    let same = popped_same macros c.levels.levels.items c.pop.new.self.items c.in-Some.level c.levels.next c.in-Has.form c.levels.turns all c.in-Some.ensures.items c.in-Has.is c.levels.invariant in
    rw p.1 (subst (IsMacroFault all c.levels.turns) (sym p.2)
    (fault_is macros c.pop.new.self.items (level_goes macros c.in-Some.level (form_of c.in-Has.form) c.levels.turns) all c.levels.turns c.in_err-next-in-Some.field-0.0 same (c.in_err-next-in-Some.ensures macros c.levels.turns)))

pub levels-smaller : goal.levels-smaller
levels-smaller c =
    let goes = c.in_ok-next-in-Some.ensures c.args.macros.now c.levels.turns in
    omega (arith, goes.less, ap levels_left c.in-Some.ensures.items, left_push c.pop.new.self.items c.in-Some.level, ap next_left c.in-Has.is)

pub levels-preserved : goal.levels-preserved
levels-preserved c =
    let macros = c.args.macros.now in
    let all = expansion macros (form_of c.args.form.now) c.args.turns.now in
    let goes = c.in_ok-next-in-Some.ensures macros c.levels.turns in
    goes.same ∙ popped_same macros c.levels.levels.items c.pop.new.self.items c.in-Some.level c.levels.next c.in-Has.form c.levels.turns all c.in-Some.ensures.items c.in-Has.is c.levels.invariant
