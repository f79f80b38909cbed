use Rattle.std.proofs.Common.{sym, ◌∙◌, ap, arith}
use Rattle.lisp_read.specs.Copies.{plug, turn_form, left, turn_left}
use Rattle.lisp_read.proofs.CopyLaws.{plug_push, left_push}
use Rattle.lisp_read.proofs.copies.copy.Goals as goal

pub turns-smaller : goal.turns-smaller
turns-smaller g c =
    let seen = g.S.Seen.seen in
    omega (arith, c.in_ok-turn-in-Some.ensures.less, ap (left seen) c.in-Some.ensures.items, left_push seen c.pop.new.self.items c.in-Some.level, ap (turn_left seen) c.in-Ends.is)

pub turns-preserved : goal.turns-preserved
turns-preserved g c =
    let seen = g.S.Seen.seen in
    let built = g.T.Built.built in
    let form = built c.in-Ends.form in
    c.in_ok-turn-in-Some.ensures.same ∙ sym (plug_push seen built c.pop.new.self.items c.in-Some.level form)
    ∙ ap (λ l. plug seen built l form) (sym c.in-Some.ensures.items)
    ∙ ap (λ t. plug seen built c.turns.levels.items (turn_form seen built t)) (sym c.in-Ends.is) ∙ c.turns.invariant
