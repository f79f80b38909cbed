use Rattle.std.proofs.Common.{rules, map, refl, subst}
use Rattle.pool_spec.specs.Step.{Admit}
use Rattle.pool_spec.specs.History.{Answers}
use Rattle.chia_sim.specs.Replies.{reply_of, entry_of}
use Rattle.chia_sim.specs.Opening.{session_of_opening}
use Rattle.chia_sim.proofs.Histories.{state-is, legal-admission}
use Rattle.chia_sim.proofs.play.play.Goals as goal

pub returns : goal.returns
returns c =
    let opening = c.args.opening in
    let reply = reply_of c.admit-reply.result in
    let next = c.admit-reply.new.pool in
    legal-admission (session_of_opening opening) (Admit opening.bundle) opening.asked reply next (map entry_of c.look_up_all.new.history.items) refl
    (subst (λ s. Answers s (Admit opening.bundle) reply next) (state-is opening.pool c.requires.limits c.requires.empty) c.admit-reply.ensures)
    (search rules)
